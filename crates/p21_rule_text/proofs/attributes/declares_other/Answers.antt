use Rattle.std.proofs.Common.{⊎_elim, inl, inr}
use Rattle.p21_rule_text.proofs.ResolveLemmas.{same_test}
use Rattle.p21_rule_text.proofs.attributes.declares_other.Goals as goal

pub returns-then-newly_derives : goal.returns-then-newly_derives
returns-then-newly_derives c = rw c.if-newly_derives.true (inl c.if-newly_derives.ensures)

pub returns-else-newly_derives : goal.returns-else-newly_derives
returns-else-newly_derives c = same_test c.newly_inverse.result (λ h. inr h) (λ h. ⊎_elim (λ e. absurd (c.if-newly_derives.ensures e)) (λ k. k) h) c.newly_inverse.ensures
