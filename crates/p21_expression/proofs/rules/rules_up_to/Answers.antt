use Rattle.std.proofs.Common.{sym, ◌∙◌, append_assoc}
use Rattle.std.proofs.lemmas.Result.{err_from_is_err_and}
use Rattle.std.proofs.lemmas.List.{map_push, append-nil}
use Rattle.p21_expression.proofs.LoopLemmas.{goes_on, is_done, fails}
use Rattle.p21_expression.proofs.LengthLemmas.{shorter}
use Rattle.p21_expression.proofs.RuleLemmas.{rule_shrinks}
use Rattle.p21_expression.proofs.rules.rules_up_to.Goals as goal

pub returns-in_err-next : goal.returns-in_err-next
returns-in_err-next c =
    let p = err_from_is_err_and c.from_residual.result c.from_residual.ensures.1 in
    rw (p.1, p.2) (fails c.in_err-next.field-0.0 c.loop-alloc.invariant (sym c.begins_name.ensures ∙ c.loop-alloc-test.true) c.in_err-next.ensures)

pub loop-alloc-smaller : goal.loop-alloc-smaller
loop-alloc-smaller c = shorter rule_shrinks c.loop-alloc.rest.now c.in_ok-next.behind.now c.in_ok-next.ensures

pub loop-alloc-preserved : goal.loop-alloc-preserved
loop-alloc-preserved c = goes_on rule_shrinks c.loop-alloc.invariant (sym c.begins_name.ensures ∙ c.loop-alloc-test.true) c.in_ok-next.ensures (λ xs r. simp (c.in_ok-push.ensures.items, map_push, append_assoc))

pub returns : goal.returns
returns c = is_done c.loop-alloc.invariant (sym c.begins_name.ensures ∙ c.loop-alloc-test.false) ∙ simp append-nil
