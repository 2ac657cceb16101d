use Rattle.std.proofs.Common.{refl, sym}
use Rattle.p21_run.specs.Run.{IsRun}
use Rattle.p21_export.proofs.runner.export.Goals as goal

pub returns-in-Ok : goal.returns-in-Ok
returns-in-Ok g c =
    let begun = c.in-Ok.begun in
    IsRun.begun begun.accepted.schema begun.text.items begun.file.items c.in-Ok.ensures.begun (rw (sym c.in-Ok.ensures.untold) c.answer.ensures)

pub returns-in-Err : goal.returns-in-Err
returns-in-Err g c = IsRun.stopped c.in-Err.ensures.stopped refl
