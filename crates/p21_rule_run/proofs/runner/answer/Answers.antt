use Rattle.std.proofs.Common.{refl, subst}
use Rattle.p21_rule_run.specs.Ruled.{IsRuled}
use Rattle.p21_run.specs.Run.{IsAnswered, IsTold}
use Rattle.p21_run.specs.declared.input.InputError.TheVariants.{Memory}
use Rattle.p21_rule_run.proofs.RunLemmas.{ruled_of_file, told_of}
use Rattle.p21_rule_run.proofs.runner.answer.Goals as goal

pub returns-in-Ok : goal.returns-in-Ok
returns-in-Ok g c =
    let accepted = c.args.begun.now.accepted in
    let due = c.in-Ok.answer in
    let ruled = subst (λ bytes. IsRuled c.args.options.now.all accepted.schema accepted.taken bytes due.outcome due.text.items) c.as_slice-2.ensures.value c.in-Ok.ensures in
    IsAnswered.answered due.outcome due.text.items (record { rules = accepted.taken; are_rules = c.requires.0; ruled = ruled }) (ruled_of_file c.args.options.now.all accepted.schema accepted.taken c.args.begun.now.file.items due.outcome due.text.items ruled)
    (told_of c.as_slice-in-Ok.ensures.value c.tell.ensures)

pub returns-in-Err : goal.returns-in-Err
returns-in-Err g c = IsAnswered.given_up Memory refl refl refl
