-- The order of values.
use Rattle.std.specs.Prelude.{ℕ, ℤ, List, Bool, true, false, Option, Some, None, if◌then◌else◌, nat_eq, option_map}
use Rattle.std.specs.Cmp.Lexicographic.{slice_cmp}
use Rattle.std.specs.Ordering.{float_partial_cmp, int_cmp, nat_cmp, ordering_reverse}
use Rattle.std.specs.declared.cmp.Ordering.{Ordering}
use Rattle.std.specs.Float.{Float}
use Rattle.p21_values.specs.Plain.{Val, nothing, truth, whole, number, text, bits, member, instance, typed, several}
use Rattle.p21_values.specs.Logic.{truth_of}
use Rattle.p21_values.specs.Numbers.{exact}
use Rattle.p21_values.specs.declared.truth.Truth.{Truth}
use Rattle.p21_values.specs.declared.truth.Truth.TheVariants.{False, Unknown, True}
use Rattle.p21_values.specs.declared.kind.Item.{Item}
use Rattle.p21_values.specs.declared.kind.ItemPlace.{ItemPlace}

-- FALSE is less than UNKNOWN, and UNKNOWN than TRUE
abbrev pub rank_of : Truth → ℕ
rank_of False = 0
rank_of Unknown = 1
rank_of True = 2

-- items of one enumeration have the order of their places
abbrev pub place_order : Option ItemPlace → Option ItemPlace → Option Ordering
place_order None q = None
place_order (Some p) None = None
place_order (Some p) (Some q) = if nat_eq p.enumeration q.enumeration then Some (nat_cmp p.item q.item) else None

-- the order of an integer and a value: numbers are compared by value
abbrev pub whole_order : ℤ → Val → Option Ordering
whole_order n (whole m) = Some (int_cmp n m)
whole_order n (number y) = float_partial_cmp (exact n) y
whole_order n _ = None

abbrev pub number_order : Float → Val → Option Ordering
number_order x (whole m) = option_map ordering_reverse (float_partial_cmp (exact m) x)
number_order x (number y) = float_partial_cmp x y
number_order x _ = None

abbrev pub truth_order : Truth → Val → Option Ordering
truth_order l (truth m) = Some (nat_cmp (rank_of l) (rank_of m))
truth_order l _ = None

-- texts are compared character by character, and a prefix is less
abbrev pub text_order : List ℕ → Val → Option Ordering
text_order t (text u) = Some (slice_cmp nat_cmp t u)
text_order t _ = None

abbrev pub bits_order : List ℕ → Val → Option Ordering
bits_order t (bits u) = Some (slice_cmp nat_cmp t u)
bits_order t _ = None

abbrev pub member_order : Item → Val → Option Ordering
member_order i (member j) = place_order i.place j.place
member_order i _ = None

-- the order of two values without defined types, where they have one
abbrev pub order_of : Val → Val → Option Ordering
order_of (truth l) w = truth_order l w
order_of (whole n) w = whole_order n w
order_of (number x) w = number_order x w
order_of (text t) w = text_order t w
order_of (bits t) w = bits_order t w
order_of (member i) w = member_order i w
order_of _ w = None

-- a relation of two values by their order: UNKNOWN where they have none
abbrev pub by_order : (Ordering → Bool) → Option Ordering → Truth
by_order test None = Unknown
by_order test (Some o) = truth_of (test o)
