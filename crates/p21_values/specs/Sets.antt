-- Operators of aggregates.
use Rattle.std.specs.Prelude.{ℕ, Bool, true, false, List, [], ◌∷◌, ◌++◌, Option, Some, None, if◌then◌else◌, remove, nat_eq}
use Rattle.p21_values.specs.Plain.{Val, Vals, nothing, truth, whole, number, text, bits, member, instance, typed, several, none, more, listed}
use Rattle.p21_values.specs.Aggregates.{any_of, not_known}
use Rattle.p21_values.specs.Ends.{Outcome, gives}
use Rattle.p21_values.specs.Logic.{and_of, is_true, truth_of}
use Rattle.p21_values.specs.Same.{partner, same_of}
use Rattle.p21_values.specs.declared.truth.Truth.{Truth}
use Rattle.p21_values.specs.declared.truth.Truth.TheVariants.{False, Unknown, True}
use Rattle.p21_values.specs.declared.arithmetic.Arithmetic.{Arithmetic}
use Rattle.p21_values.specs.declared.arithmetic.Arithmetic.TheVariants as arithmetic
use Rattle.p21_values.specs.declared.kind.Kind.{Kind}
use Rattle.p21_values.specs.declared.kind.Kind.TheVariants as kind

-- `:=:` compares instances by their places
abbrev pub by_place : ℕ → ℕ → Truth
by_place i j = truth_of (nat_eq i j)

-- the place of a partner that is surely the same
abbrev pub sure : Option (ℕ × Truth) → Option ℕ
sure None = None
sure (Some found) = if is_true found.1 then Some found.0 else None

abbrev pub same_at : Val → List Val → Option ℕ
same_at v ws = sure (partner (same_of by_place v) ws)

-- a value is added to a set that has it not
abbrev pub added : List Val → Val → List Val
added xs y = if is_true (any_of (same_of by_place y) xs) then xs else xs ++ y ∷ []

-- the union: the elements of the one, and those of the other that are not there yet
abbrev pub union_of : List Val → List Val → List Val
union_of xs [] = xs
union_of xs (y ∷ ys) = union_of (added xs y) ys

-- without the element at a place
abbrev pub without : List Val → Option ℕ → List Val
without xs None = xs
without xs (Some k) = remove xs k

-- the difference: each element of the other takes one of the same away
abbrev pub difference_of : List Val → List Val → List Val
difference_of xs [] = xs
difference_of xs (y ∷ ys) = difference_of (without xs (same_at y xs)) ys

-- the intersection: each element of the one that has one of its own in the other
abbrev pub kept : Val → Option ℕ → List Val → (List Val → List Val) → List Val
kept x None ys rest = rest ys
kept x (Some k) ys rest = x ∷ rest (remove ys k)

abbrev pub intersection_of : List Val → List Val → List Val
intersection_of [] ys = []
intersection_of (x ∷ xs) ys = kept x (same_at x ys) ys (intersection_of xs)

-- whether each element of the one has one of its own in the other; UNKNOWN where it is `?` or may be there
abbrev pub within : Val → Option (ℕ × Truth) → List Val → (List Val → Truth) → Truth
within x None ys rest = and_of (not_known x) (rest ys)
within x (Some found) ys rest = if is_true found.1 then rest (remove ys found.0) else and_of Unknown (rest ys)

abbrev pub subset_of : List Val → List Val → Truth
subset_of [] ys = True
subset_of (x ∷ xs) ys = within x (partner (same_of by_place x) ys) ys (subset_of xs)

-- values as the elements of an aggregate
abbrev pub vals : List Val → Vals
vals [] = none
vals (v ∷ vs) = more v (vals vs)

-- the elements of an aggregate; another value is an element itself
abbrev pub elements_of : Val → List Val
elements_of (several k vs) = listed vs
elements_of v = v ∷ []

-- the kind of the first of two values that is an aggregate, where none of the two is `?`
abbrev pub second_kind : Val → Option Kind
second_kind (several l ws) = Some l
second_kind _ = None

abbrev pub first_kind : Kind → Val → Option Kind
first_kind k nothing = None
first_kind k _ = Some k

abbrev pub kind_of : Val → Val → Option Kind
kind_of nothing w = None
kind_of (several k vs) w = first_kind k w
kind_of _ w = second_kind w

-- `+` of aggregates: the union of sets; bags and lists are put one after the other
abbrev pub sum_of : Kind → List Val → List Val → Val
sum_of kind.Set xs ys = several kind.Set (vals (union_of xs ys))
sum_of kind.Bag xs ys = several kind.Bag (vals (xs ++ ys))
sum_of _ xs ys = several kind.List (vals (xs ++ ys))

-- an intersection or a difference is a bag where the first aggregate is one, and else a set
abbrev pub counted_kind : Kind → Kind
counted_kind kind.Bag = kind.Bag
counted_kind _ = kind.Set

-- the operators of aggregates
abbrev pub collected_of : Arithmetic → Kind → List Val → List Val → Val
collected_of arithmetic.Add k xs ys = sum_of k xs ys
collected_of arithmetic.Subtract k xs ys = several (counted_kind k) (vals (difference_of xs ys))
collected_of arithmetic.Multiply k xs ys = several (counted_kind k) (vals (intersection_of xs ys))
collected_of arithmetic.Divide k xs ys = nothing
