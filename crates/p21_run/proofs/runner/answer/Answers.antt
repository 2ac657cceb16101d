use Rattle.std.proofs.Common.{refl, subst}
use Rattle.p21_run.specs.Due.{IsReport}
use Rattle.p21_run.specs.Run.{IsAnswered}
use Rattle.p21_run.specs.declared.input.InputError.TheVariants.{Memory}
use Rattle.p21_run.proofs.RunLemmas.{told_of}
use Rattle.p21_run.proofs.runner.answer.Goals as goal

pub returns-in-Ok : goal.returns-in-Ok
returns-in-Ok g c =
    let due = subst (λ bytes. IsReport c.args.options.now.all c.args.begun.now.accepted.schema bytes c.in-Ok.answer.outcome c.in-Ok.answer.text.items) c.as_slice.ensures.value c.in-Ok.ensures.due in
    IsAnswered.answered c.in-Ok.answer.outcome c.in-Ok.answer.text.items due c.in-Ok.ensures.of_file (told_of c.as_slice-in-Ok.ensures.value c.tell.ensures)

pub returns-in-Err : goal.returns-in-Err
returns-in-Err g c = IsAnswered.given_up Memory refl refl refl
