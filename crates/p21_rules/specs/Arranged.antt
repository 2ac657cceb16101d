-- Elements whose order does not count, in the order of their codes.
use Rattle.std.specs.Prelude.{◌≡◌, Bool, true, false, List, IsPermutation, IsSorted}
use Rattle.std.specs.declared.cmp.Ordering.{Ordering}
use Rattle.std.specs.Ordering.{nat_cmp}
use Rattle.std.specs.Cmp.Lexicographic.{slice_cmp}
use Rattle.p21_rules.specs.Code.{value_code}
use Rattle.p21_rules.specs.Value.{Value}

-- which of two values comes first
abbrev pub code_cmp : Value → Value → Ordering
code_cmp v w = slice_cmp nat_cmp (value_code v) (value_code w)

-- the same values, in the order of their codes
pub record IsRearranged (vs us : List Value) : Type 0 where
  pub permutation : IsPermutation vs us
  pub sorted : IsSorted code_cmp us

-- the values of elements, as they stand where their order counts, and else in the order of their codes
abbrev pub AreArranged : Bool → List Value → List Value → Type 0
AreArranged true vs us = us ≡ vs
AreArranged false vs us = IsRearranged vs us
