use Rattle.std.proofs.Common.{sym, ◌∙◌, append_assoc}
use Rattle.std.proofs.lemmas.Result.{err_from_is_err_and}
use Rattle.std.proofs.lemmas.List.{append-nil}
use Rattle.p21_rule_text.proofs.LoopLemmas.{goes_on, is_done, fails}
use Rattle.p21_rule_text.proofs.LengthLemmas.{shorter}
use Rattle.p21_rule_text.proofs.ClauseLemmas.{declaration_shrinks}
use Rattle.p21_rule_text.proofs.entities.declarations.Goals as goal

pub returns-in_err-entity : goal.returns-in_err-entity
returns-in_err-entity c =
    let p = err_from_is_err_and c.from_residual-in_err-entity.result c.from_residual-in_err-entity.ensures.1 in
    rw (p.1, p.2) (fails c.in_err-entity.field-0.0 c.loop-alloc.invariant (sym c.begins_name.ensures ∙ c.loop-alloc-test.true) c.in_err-entity.ensures)

pub loop-alloc-smaller : goal.loop-alloc-smaller
loop-alloc-smaller c = shorter declaration_shrinks c.loop-alloc.rest.now c.in_ok-entity.behind.now c.in_ok-entity.ensures

pub loop-alloc-preserved : goal.loop-alloc-preserved
loop-alloc-preserved c = goes_on declaration_shrinks c.loop-alloc.invariant (sym c.begins_name.ensures ∙ c.loop-alloc-test.true) c.in_ok-entity.ensures (λ xs r. simp (c.in_ok-push.ensures, append_assoc))

pub returns : goal.returns
returns c = is_done c.loop-alloc.invariant (sym c.begins_name.ensures ∙ c.loop-alloc-test.false) ∙ simp append-nil
