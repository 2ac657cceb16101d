use Rattle.std.proofs.Common.{◌≡◌, ◌++◌, map, take}
use Rattle.p21_express.specs.Again.{plain_again}
use Rattle.p21_express.proofs.AgainLemmas.{again_explicit_of, again_derived_of}
use Rattle.p21_express.proofs.checks.redeclared.all_again.Given as goal

abbrev pub invariant-loop-i : goal.invariant-loop-i
invariant-loop-i l = map plain_again l.all.items ≡ again_explicit_of (take l.i l.entity.attributes.items)

abbrev pub invariant-loop-i-2 : goal.invariant-loop-i-2
invariant-loop-i-2 l = map plain_again l.all.items ≡ again_explicit_of l.entity.attributes.items ++ again_derived_of (take l.i l.entity.derived.items)
