use Rattle.p21_reader.proofs.AllFaultLemmas.{begin_with_reading, told}
use Rattle.p21_reader.proofs.all_laws.all_begin_with_reading.Goals as goal

pub returns-clause-begin : goal.returns-clause-begin
returns-clause-begin c = λ s file. begin_with_reading c.first_is_unique.ensures s file (c.one_reading.ensures s file)

pub returns-clause-reading : goal.returns-clause-reading
returns-clause-reading c = λ s file. told c.first_is_unique.ensures s file
