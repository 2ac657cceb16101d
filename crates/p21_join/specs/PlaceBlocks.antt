-- The places that blocks have for names.
use Rattle.std.specs.Prelude.{◌≡◌, ◌≢◌, ℕ, zero, suc, ◌/◌, ◌%◌, Bool, true, false, List, Option, Some, None, Result, Ok, Err, IsSome, nat_eq, slice_get, slice_index_or}
use Rattle.std.specs.declared.alloc.AllocError.{AllocError}
use Rattle.indexmap.specs.IndexMap.{get}
use Rattle.p21_join.specs.declared.place_blocks.PlaceBlocks.{PlaceBlocks}

-- the place for which a number stands: 0 for none, and each other for the place before it
abbrev pub place_by : ℕ → Option ℕ
place_by zero = None
place_by (suc place) = Some place

-- the place for which a block has a number; none without a block
abbrev pub place_in : Option (List ℕ) → ℕ → Option ℕ
place_in None within = None
place_in (Some numbers) within = place_by (slice_index_or numbers within 0)

-- the place of a name: sixteen names in a row are a block
abbrev pub place_of : PlaceBlocks → ℕ → Option ℕ
place_of table name = place_in (get nat_eq table.blocks (name / 16)) (name % 16)

-- each name has the place that it had
abbrev pub KeepsPlaces : PlaceBlocks → PlaceBlocks → Type 0
KeepsPlaces old new = (name : ℕ) → place_of new name ≡ place_of old name

-- each name but this one has the place that it had
abbrev pub KeepsOtherPlaces : PlaceBlocks → ℕ → PlaceBlocks → Type 0
KeepsOtherPlaces old name new = (other : ℕ) → other ≢ name → place_of new other ≡ place_of old other

-- A name that had no place has this one. One that had a place keeps it; then, or for lack of memory, which comes where it had none,
-- nothing is changed.
abbrev pub InsertsPlace : PlaceBlocks → ℕ → ℕ → Result Bool AllocError → PlaceBlocks → Type 0
InsertsPlace old name place (Ok true) new = (place_of old name ≡ None) × (place_of new name ≡ Some place) × KeepsOtherPlaces old name new
InsertsPlace old name place (Ok false) new = IsSome (place_of old name) × KeepsPlaces old new
InsertsPlace old name place (Err e) new = (place_of old name ≡ None) × KeepsPlaces old new

-- the block of a number stands at a place among the blocks
abbrev pub IsBlockAt : PlaceBlocks → ℕ → ℕ → Type 0
IsBlockAt table number at = (numbers : List ℕ) × (slice_get table.blocks.entries at ≡ Some (number, numbers))
