use Rattle.p21_check.proofs.laws.fault_has_no_reading.Goals as goal

pub returns-clause-local : goal.returns-clause-local
returns-clause-local c s i k has none = none k has

pub returns-clause-references : goal.returns-clause-references
returns-clause-references c s named i rec_ attr place k has none = none rec_ attr place k has
