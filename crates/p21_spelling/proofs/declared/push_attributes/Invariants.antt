use Rattle.std.proofs.Common.{◌≡◌, ◌++◌, map, drop}
use Rattle.p21_express.specs.Plain.{plain_attribute}
use Rattle.p21_express.specs.WellFormed.{new_explicit}
use Rattle.p21_spelling.specs.Spelled.{lower, names_in}
use Rattle.p21_spelling.proofs.declared.push_attributes.Given as goal

abbrev pub invariant-loop-attribute : goal.invariant-loop-attribute
invariant-loop-attribute l =
    names_in l.spelled.items ++ map lower (new_explicit (map plain_attribute (drop l.attribute-index l.attribute-items))) ≡ names_in l.initial.spelled.items ++ map lower (new_explicit (map plain_attribute l.attribute-items))
