use Rattle.std.proofs.Common.{refl, subst}
use Rattle.p21_run.specs.Run.{IsAnswered}
use Rattle.p21_export.specs.Export.{IsAnswer, IsGivenUp, IsLeft, IsWritten}
use Rattle.p21_export.proofs.ModelLemmas.{told_of}
use Rattle.p21_export.proofs.runner.answer.Goals as goal

pub returns-in-Ok : goal.returns-in-Ok
returns-in-Ok g c =
    let due = c.in-Ok.answer in
    let s = c.args.begun.now.accepted.schema in
    let answer = subst (λ bytes. IsAnswer (IsWritten g.K.Sink.failed g.K.Sink.taken) s bytes c.args.out.now c.export_file.new.out due.outcome due.text.items) c.as_slice.ensures.value c.in-Ok.ensures.answered in
    IsAnswered.answered due.outcome due.text.items answer c.in-Ok.ensures.of_file (told_of c.as_slice-in-Ok.ensures.value c.tell.ensures)

pub returns-in-Err : goal.returns-in-Err
returns-in-Err g c =
    let s = c.args.begun.now.accepted.schema in
    let left = subst (λ bytes. IsGivenUp (IsLeft g.K.Sink.failed g.K.Sink.marked) s bytes c.args.out.now c.export_file.new.out c.in-Err.error) c.as_slice.ensures.value c.in-Err.ensures.given_up in
    IsAnswered.given_up c.in-Err.error left c.outcome.ensures refl
