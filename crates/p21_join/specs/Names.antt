-- The names of instances.
use Rattle.std.specs.Prelude.{◌≡◌, ◌≢◌, ◌<◌, ℕ, List, Option, Some, None, All, AllPairs, get_or, length}
use Rattle.std.specs.Coded.{Π_prop}
use Rattle.std.proofs.Props.{props}
use Rattle.p21_tree.specs.declared.instances.RawInstance.{RawInstance}
use Rattle.p21_join.specs.declared.instance_places.InstancePlaces.{InstancePlaces}
use Rattle.p21_join.specs.InstancePlaces.{place_of}

-- the place of the instance of the list that has the name; none where no instance has it
abbrev pub IsPosition : List RawInstance → ℕ → Option ℕ → Type 0
IsPosition is name None = All (λ i. i.name ≢ name) is
IsPosition is name (Some k) = (k < length is) × ((d : RawInstance) → (get_or is k d).name ≡ name)

-- there is at most one proof of it
pub IsPosition-prop : (is : List RawInstance) (name : ℕ) (place : Option ℕ) → IsProp (IsPosition is name place)
IsPosition-prop is name None = hlevel props
IsPosition-prop is name (Some k) = hlevel props

-- the table has for each name the place of an instance of that name, and none where no instance has it
abbrev pub HasPlacesOf : InstancePlaces → List RawInstance → Type 0
HasPlacesOf table instances = (name : ℕ) → IsPosition instances name (place_of table name)

-- there is at most one proof of it
pub HasPlacesOf-prop : (table : InstancePlaces) (instances : List RawInstance) → IsProp (HasPlacesOf table instances)
HasPlacesOf-prop table instances = Π_prop (λ name. IsPosition-prop instances name (place_of table name))

-- no two of the instances have one name
abbrev pub HaveOwnNames : List RawInstance → Type 0
HaveOwnNames instances = AllPairs (λ i other. i.name ≢ other.name) instances
