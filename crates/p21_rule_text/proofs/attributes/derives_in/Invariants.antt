use Rattle.std.proofs.Common.{◌≡◌, drop}
use Rattle.p21_express.specs.Plain.{plain_derived}
use Rattle.p21_rule_text.proofs.ResolveLemmas.{OfOne}
use Rattle.p21_rule_text.proofs.attributes.derives_in.Given as goal

abbrev pub invariant-loop-attribute : goal.invariant-loop-attribute
invariant-loop-attribute l = let One = OfOne plain_derived (λ d. d.name ≡ l.name) in One l.declared.derived.items → One (drop l.attribute-index l.declared.derived.items)
