use Rattle.std.proofs.Common.{⊎_elim, inl, inr}
use Rattle.p21_rule_text.proofs.ResolveLemmas.{same_test}
use Rattle.p21_rule_text.proofs.attributes.has_other.Goals as goal

pub returns-then-derives : goal.returns-then-derives
returns-then-derives c = rw c.if-derives.true (inl c.if-derives.ensures)

pub returns-else-derives : goal.returns-else-derives
returns-else-derives c = same_test c.has_inverse.result (λ h. inr h) (λ h. ⊎_elim (λ e. absurd (c.if-derives.ensures e)) (λ k. k) h) c.has_inverse.ensures
