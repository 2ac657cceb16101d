use Rattle.std.proofs.Common.{sym, ap, ◌∙◌}
use Rattle.p21_values.specs.Plain.{plain, more}
use Rattle.p21_evaluate.specs.Meaning.{keep_if, before}
use Rattle.p21_evaluate.proofs.Steps.{before_more}
use Rattle.p21_evaluate.proofs.evaluation.keep.Goals as goal

pub returns-in_ok-push-clause-kept : goal.returns-in_ok-push-clause-kept
returns-in_ok-push-clause-kept c =
    let olds = c.args.kept.now.items in
    λ ws.
    ap (λ s. before s ws) c.in_ok-push.ensures.pushed
    ∙ before_more olds c.in_ok-share.field-0 ws
    ∙ ap (λ v. before olds (more v ws)) c.in_ok-share.ensures
    ∙ ap (λ b. before olds (keep_if c.args.places b (plain c.args.value.now) ws)) (sym c.if-yes.true)

pub returns-in_ok-leave_out-clause-kept : goal.returns-in_ok-leave_out-clause-kept
returns-in_ok-leave_out-clause-kept c =
    let olds = c.args.kept.now.items in
    λ ws. c.in_ok-leave_out.ensures.kept ws ∙ ap (λ b. before olds (keep_if c.args.places b (plain c.args.value.now) ws)) (sym c.if-yes.false)
