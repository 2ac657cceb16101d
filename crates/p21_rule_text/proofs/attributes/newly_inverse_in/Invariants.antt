use Rattle.std.proofs.Common.{◌≡◌, None, drop}
use Rattle.p21_rule_text.specs.Clauses.{plain_inverse}
use Rattle.p21_rule_text.proofs.ResolveLemmas.{OfOne}
use Rattle.p21_rule_text.proofs.attributes.newly_inverse_in.Given as goal

abbrev pub invariant-loop-inverse : goal.invariant-loop-inverse
invariant-loop-inverse l = let One = OfOne plain_inverse (λ i. (i.name.of ≡ None) × (i.name.name ≡ l.name)) in One l.clauses.inverse.items → One (drop l.inverse-index l.clauses.inverse.items)
