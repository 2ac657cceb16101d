use Rattle.p21_checker.specs.Counts.{counts}
use Rattle.p21_checker.proofs.CheckLemmas.{first_is}
use Rattle.p21_checker.proofs.check.first_of.Goals as goal

pub returns-in-Ok : goal.returns-in-Ok
returns-in-Ok c = rw c.in-Ok.is counts

pub returns-in-Err : goal.returns-in-Err
returns-in-Err c =
    let some = rw c.in-Err.is at c.requires in
    rw c.in-Err.is (first_is c.in-Err.faults c.index.result.now c.index.result.now some c.index.ensures)
