-- The places that a table has for names.
use Rattle.std.specs.Prelude.{◌≡◌, ◌≢◌, ℕ, Bool, true, false, Option, Some, None, Result, Ok, Err, IsSome, slice_index_or}
use Rattle.std.specs.declared.alloc.AllocError.{AllocError}
use Rattle.p21_join.specs.declared.instance_places.InstancePlaces.{InstancePlaces}
use Rattle.p21_join.specs.PlaceBlocks.{place_by}
use Rattle.p21_join.specs.PlaceBlocks as blocks

-- the first of two places, if it is there, and else the second
abbrev pub first_place : Option ℕ → Option ℕ → Option ℕ
first_place None other = other
first_place (Some place) other = Some place

-- the place of a name: that of the dense part, and else that of its block
abbrev pub place_of : InstancePlaces → ℕ → Option ℕ
place_of table name = first_place (place_by (slice_index_or table.dense.items name 0)) (blocks.place_of table.blocks name)

-- each name has the place that it had
abbrev pub KeepsPlaces : InstancePlaces → InstancePlaces → Type 0
KeepsPlaces old new = (name : ℕ) → place_of new name ≡ place_of old name

-- each name but this one has the place that it had
abbrev pub KeepsOtherPlaces : InstancePlaces → ℕ → InstancePlaces → Type 0
KeepsOtherPlaces old name new = (other : ℕ) → other ≢ name → place_of new other ≡ place_of old other

-- A name that had no place has this one. One that had a place keeps it; then, or for lack of memory, which comes where it had none,
-- nothing is changed.
abbrev pub InsertsPlace : InstancePlaces → ℕ → ℕ → Result Bool AllocError → InstancePlaces → Type 0
InsertsPlace old name place (Ok true) new = (place_of old name ≡ None) × (place_of new name ≡ Some place) × KeepsOtherPlaces old name new
InsertsPlace old name place (Ok false) new = IsSome (place_of old name) × KeepsPlaces old new
InsertsPlace old name place (Err e) new = (place_of old name ≡ None) × KeepsPlaces old new
