use Rattle.std.proofs.Common.{◌≡◌, [], take}
use Rattle.p21_express.proofs.AgainLemmas.{again_explicit_of, again_derived_of}
use Rattle.p21_express.proofs.checks.redeclared.declares_again.Given as goal

abbrev pub invariant-loop-attribute : goal.invariant-loop-attribute
invariant-loop-attribute l = again_explicit_of (take l.attribute-index l.entity.attributes.items) ≡ []

abbrev pub invariant-loop-derived : goal.invariant-loop-derived
invariant-loop-derived l = (again_explicit_of l.entity.attributes.items ≡ []) × (again_derived_of (take l.derived-index l.entity.derived.items) ≡ [])
