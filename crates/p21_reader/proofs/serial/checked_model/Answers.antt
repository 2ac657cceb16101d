use Rattle.std.proofs.Common.{Err}
use Rattle.p21_reader.specs.LocalFault.{IsLocalFaultOfFile}
use Rattle.p21_reader.specs.Reading.{IsReading}
use Rattle.p21_reader.specs.Reading as reading
use Rattle.p21_reader.proofs.ExitLemmas.{exit_stop, fault_gives}
use Rattle.p21_reader.proofs.serial.checked_model.Goals as goal

pub returns-in_err-model-clause-fault : goal.returns-in_err-model-clause-fault
returns-in_err-model-clause-fault c =
    let s = c.args.schema.now in
    let file = c.args.file.now in
    let e = c.in_err-model.field-0.0 in
    exit_stop (λ f. IsReading s file (Err f)) c.from_residual.result e c.from_residual.ensures.1 (fault_gives (IsLocalFaultOfFile s file) (λ f. IsReading s file (Err f)) e (λ f h. reading.local h) c.in_err-model.ensures.fault)

pub returns-in-Ok-clause-ok : goal.returns-in-Ok-clause-ok
returns-in-Ok-clause-ok c = reading.read c.in_ok-model.ensures.ok c.in-Ok.ensures.ok

pub returns-clause-fault : goal.returns-clause-fault
returns-clause-fault c = reading.reference c.in_ok-model.ensures.ok c.in-Err.ensures.fault
