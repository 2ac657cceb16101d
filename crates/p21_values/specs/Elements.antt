-- Aggregates with another element.
use Rattle.std.specs.Prelude.{ℕ, ℤ, ◌-ℤ◌, List, [], ◌∷◌, ◌++◌, Bool, true, false, ◌&&◌, if◌then◌else◌, int_lt, nat_eq, nat_lt, length, slice_set, unsigned_abs}
use Rattle.p21_values.specs.Aggregates.{first_index}
use Rattle.p21_values.specs.Plain.{Val, nothing, whole, several, bare, listed}
use Rattle.p21_values.specs.Sets.{vals}
use Rattle.p21_values.specs.declared.kind.Kind.{Kind}
use Rattle.p21_values.specs.declared.kind.Kind.TheVariants as kind

-- whether an assignment behind the last element adds one: an array has as many as it has indices
abbrev pub grows : Kind → Bool
grows (kind.Array i) = false
grows _ = true

-- elements with another at a place; behind the last one it may be added, and elsewhere there is no such place
abbrev pub with_place : Bool → List Val → ℕ → Val → List Val
with_place more vs n v = if nat_lt n (length vs) then slice_set vs n v else (if (more && nat_eq n (length vs)) then vs ++ v ∷ [] else vs)

-- elements with another at an index
abbrev pub with_at : Kind → List Val → ℤ → Val → List Val
with_at k vs i v = if int_lt i (first_index k) then vs else with_place (grows k) vs (unsigned_abs (i -ℤ first_index k)) v

abbrev pub with_index : Kind → List Val → Val → Val → List Val
with_index k vs (whole i) v = with_at k vs i v
with_index k vs _ v = vs

-- an aggregate with another element at an index
abbrev pub with_element : Val → Val → Val → Val
with_element (several k vs) i v = several k (vals (with_index k (listed vs) i v))
with_element _ i v = nothing

-- defined types of the aggregate and of the index play no part
abbrev pub with_element_of : Val → Val → Val → Val
with_element_of v i w = with_element (bare v) (bare i) w
