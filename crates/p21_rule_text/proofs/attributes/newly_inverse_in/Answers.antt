use Rattle.std.proofs.Common.{◌≡◌, None}
use Rattle.p21_rule_text.specs.Clauses.{InverseClause, plain_inverse}
use Rattle.p21_rule_text.proofs.ResolveLemmas.{of_one, of_others}
use Rattle.p21_rule_text.proofs.attributes.newly_inverse_in.Goals as goal

pub returns-then-is_new_inverse : goal.returns-then-is_new_inverse
returns-then-is_new_inverse c =
    let IsSought : InverseClause → Type 0 = λ i. (i.name.of ≡ None) × (i.name.name ≡ c.args.name.now) in
    of_one plain_inverse IsSought c.args.clauses.now.inverse.items c.loop-inverse.inverse-index _ (rw c.deref-inverse-items.ensures.value at c.loop-inverse-test.true) (rw c.deref-inverse-items.ensures.value at c.if-is_new_inverse.ensures)

pub loop-inverse-preserved : goal.loop-inverse-preserved
loop-inverse-preserved c =
    let IsSought : InverseClause → Type 0 = λ i. (i.name.of ≡ None) × (i.name.name ≡ c.args.name.now) in
    λ h. of_others plain_inverse IsSought c.args.clauses.now.inverse.items c.loop-inverse.inverse-index _ (rw c.deref-inverse-items.ensures.value at c.loop-inverse-test.true) (rw c.deref-inverse-items.ensures.value at c.if-is_new_inverse.ensures) (c.loop-inverse.invariant h)
