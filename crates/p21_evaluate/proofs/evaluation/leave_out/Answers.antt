use Rattle.std.proofs.Common.{sym, ap, ◌∙◌}
use Rattle.p21_values.specs.Plain.{plain}
use Rattle.p21_values.specs.declared.value.Value.TheVariants.{Indeterminate}
use Rattle.p21_evaluate.specs.Meaning.{before, left_out}
use Rattle.p21_evaluate.proofs.Steps.{before_more}
use Rattle.p21_evaluate.proofs.evaluation.leave_out.Goals as goal

pub returns-in_ok-push-clause-kept : goal.returns-in_ok-push-clause-kept
returns-in_ok-push-clause-kept c =
    let olds = c.args.kept.now.items in
    λ ws.
    ap (λ s. before s ws) c.in_ok-push.ensures.pushed
    ∙ before_more olds Indeterminate ws
    ∙ ap (λ p. before olds (left_out p ws)) (sym c.if-places.true)
