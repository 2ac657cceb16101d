-- When two values are the same.
use Rattle.std.specs.Prelude.{ℕ, ℤ, ◌+◌, List, [], ◌∷◌, length, Bool, true, false, ◌&&◌, ◌||◌, if◌then◌else◌, Option, Some, None, nat_eq, remove, slice_index_or, ◌<◌}
use Rattle.std.specs.List.{position_from}
use Rattle.std.specs.Cmp.Lexicographic.{slice_cmp}
use Rattle.std.specs.Ordering.{int_eq, is_eq, nat_cmp}
use Rattle.std.specs.Float.{Float}
use Rattle.std.specs.Float.Ieee
use Rattle.p21_values.specs.Plain.{Val, Vals, nothing, truth, whole, number, text, bits, member, instance, typed, several, made, none, more, bare, listed}
use Rattle.p21_values.specs.Logic.{and_of, truth_of, truth_eq, is_true, is_unknown}
use Rattle.p21_values.specs.Numbers.{exact}
use Rattle.p21_values.specs.declared.truth.Truth.{Truth}
use Rattle.p21_values.specs.declared.truth.Truth.TheVariants.{False, Unknown, True}
use Rattle.p21_values.specs.declared.kind.Kind.{Kind}
use Rattle.p21_values.specs.declared.kind.Kind.TheVariants as kind
use Rattle.p21_values.specs.declared.kind.Item.{Item}
use Rattle.p21_values.specs.declared.kind.ItemPlace.{ItemPlace}
use Rattle.p21_values.specs.declared.kind.Comparison.{Comparison}
use Rattle.p21_values.specs.declared.kind.Comparison.TheVariants.{Counted, InOrder, Never}

-- two places agree where one of them is not known, or they are of one enumeration
abbrev pub places_agree : Option ItemPlace → Option ItemPlace → Bool
places_agree None q = true
places_agree (Some p) None = true
places_agree (Some p) (Some q) = nat_eq p.enumeration q.enumeration

-- items are the same by name, of one enumeration where both are known
abbrev pub same_item : Item → Item → Bool
same_item i j = nat_eq i.name j.name && places_agree i.place j.place

-- whether texts are equal: neither is before the other
abbrev pub same_text : List ℕ → List ℕ → Bool
same_text t u = is_eq (slice_cmp nat_cmp t u)

-- what is the same as a truth
abbrev pub truth_is : Truth → Val → Truth
truth_is l nothing = Unknown
truth_is l (truth m) = truth_of (truth_eq l m)
truth_is l _ = False

-- what is the same as an integer: an integer or a real of the same value
abbrev pub whole_is : ℤ → Val → Truth
whole_is n nothing = Unknown
whole_is n (whole m) = truth_of (int_eq n m)
whole_is n (number y) = truth_of (Ieee.eq (exact n) y)
whole_is n _ = False

-- what is the same as a real
abbrev pub number_is : Float → Val → Truth
number_is x nothing = Unknown
number_is x (whole m) = truth_of (Ieee.eq (exact m) x)
number_is x (number y) = truth_of (Ieee.eq x y)
number_is x _ = False

-- what is the same as a text
abbrev pub text_is : List ℕ → Val → Truth
text_is t nothing = Unknown
text_is t (text u) = truth_of (same_text t u)
text_is t _ = False

-- what is the same as a binary
abbrev pub bits_are : List ℕ → Val → Truth
bits_are t nothing = Unknown
bits_are t (bits u) = truth_of (same_text t u)
bits_are t _ = False

-- what is the same as an item
abbrev pub member_is : Item → Val → Truth
member_is i nothing = Unknown
member_is i (member j) = truth_of (same_item i j)
member_is i _ = False

-- what is the same as an instance of the file, by a comparison of such instances: no instance that an expression makes is one of the file
abbrev pub instance_is : (ℕ → ℕ → Truth) → ℕ → Val → Truth
instance_is e i nothing = Unknown
instance_is e i (instance j) = e i j
instance_is e i _ = False

-- whether an aggregate is a set or a bag
abbrev pub is_counted : Kind → Bool
is_counted kind.Bag = true
is_counted kind.Set = true
is_counted _ = false

-- whether an aggregate is a list or an array
abbrev pub is_ordered : Kind → Bool
is_ordered (kind.Array i) = true
is_ordered kind.List = true
is_ordered _ = false

-- arrays are compared only if their first elements have the same index
abbrev pub indices_agree : Kind → Kind → Bool
indices_agree (kind.Array i) (kind.Array j) = int_eq i j
indices_agree _ _ = true

-- sets and bags are compared by what they count, lists and arrays in order
abbrev pub comparison_of : Kind → Kind → Comparison
comparison_of k l = if (is_counted k || is_counted l) then (if (is_ordered k || is_ordered l) then Never else Counted) else (if indices_agree k l then InOrder else Never)

-- the values at these places
abbrev pub at_places : List Val → List ℕ → List Val
at_places ws [] = []
at_places ws (i ∷ is) = slice_index_or ws i nothing ∷ at_places ws is

-- the places are below a number
abbrev pub AreBelow : ℕ → List ℕ → Type 0
AreBelow n [] = Unit {0}
AreBelow n (i ∷ is) = (i < n) × AreBelow n is

-- the first of two places, where there is one
abbrev pub first_of : Option ℕ → Option ℕ → Option ℕ
first_of (Some i) p = Some i
first_of None p = p

-- a place where a value is the same, and else one where it may be, with what is known of it
abbrev pub chosen : Option ℕ → Option ℕ → Option (ℕ × Truth)
chosen (Some i) _ = Some (i, True)
chosen None (Some i) = Some (i, Unknown)
chosen None None = None

-- the first value that is the same, and else the first that may be
abbrev pub partner : (Val → Truth) → List Val → Option (ℕ × Truth)
partner p ws = chosen (position_from (λ w. is_true (p w)) 0 ws) (position_from (λ w. is_unknown (p w)) 0 ws)

-- each value takes its partner away from the others
abbrev pub taken : Option (ℕ × Truth) → List Val → (List Val → Truth) → Truth
taken None ws rest = False
taken (Some found) ws rest = and_of found.1 (rest (remove ws found.0))

-- what is the same as an aggregate: one of as many values, compared in order or by what they count
abbrev pub compared : Comparison → ℕ → List Val → (List Val → Truth) → (List Val → Truth) → Truth
compared Never n ws ordered counted = False
compared InOrder n ws ordered counted = if nat_eq n (length ws) then ordered ws else False
compared Counted n ws ordered counted = if nat_eq n (length ws) then counted ws else False

abbrev pub several_are : Kind → ℕ → (List Val → Truth) → (List Val → Truth) → Val → Truth
several_are k n ordered counted nothing = Unknown
several_are k n ordered counted (several l ws) = compared (comparison_of k l) n (listed ws) ordered counted
several_are k n ordered counted _ = False

-- made instances are compared attribute by attribute if they are of one entity
abbrev pub comparison_of_entities : ℕ → ℕ → Comparison
comparison_of_entities f g = if nat_eq f g then InOrder else Never

-- what is the same as an instance that an expression makes: another such of the same entity with the same attributes
abbrev pub made_is : ℕ → ℕ → (List Val → Truth) → (List Val → Truth) → Val → Truth
made_is f n ordered counted nothing = Unknown
made_is f n ordered counted (made g ws) = compared (comparison_of_entities f g) n (listed ws) ordered counted
made_is f n ordered counted _ = False

-- whether two values are the same, without their defined types; UNKNOWN where one is `?`
abbrev mutual
  pub same_of : (ℕ → ℕ → Truth) → Val → Val → Truth
  same_of e nothing w = Unknown
  same_of e (truth l) w = truth_is l (bare w)
  same_of e (whole n) w = whole_is n (bare w)
  same_of e (number x) w = number_is x (bare w)
  same_of e (text t) w = text_is t (bare w)
  same_of e (bits t) w = bits_are t (bare w)
  same_of e (member i) w = member_is i (bare w)
  same_of e (instance i) w = instance_is e i (bare w)
  same_of e (typed t v) w = same_of e v w
  same_of e (several k vs) w = several_are k (length (listed vs)) (ordered_same e vs) (counted_same e vs) (bare w)
  same_of e (made f vs) w = made_is f (length (listed vs)) (ordered_same e vs) (counted_same e vs) (bare w)

  -- each value is the same as that in its place
  pub ordered_same : (ℕ → ℕ → Truth) → Vals → List Val → Truth
  ordered_same e none ws = True
  ordered_same e (more v vs) [] = False
  ordered_same e (more v vs) (w ∷ ws) = and_of (same_of e v w) (ordered_same e vs ws)

  -- each value has a partner of its own
  pub counted_same : (ℕ → ℕ → Truth) → Vals → List Val → Truth
  counted_same e none ws = True
  counted_same e (more v vs) ws = taken (partner (same_of e v) ws) ws (counted_same e vs)
