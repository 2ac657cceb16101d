-- Names of instances, and what adding one more does.
use Rattle.std.specs.Prelude.{◌≡◌, ℕ, ◌↔◌, ◌⊎◌, Bool, true, false, Result, Ok, Err, IsSome}
use Rattle.std.specs.declared.alloc.AllocError.{AllocError}
use Rattle.p21_join.specs.declared.instance_names.InstanceNames.{InstanceNames}
use Rattle.p21_join.specs.InstancePlaces.{place_of}

-- a name is one of the names
abbrev pub IsAmong : InstanceNames → ℕ → Type 0
IsAmong names name = IsSome (place_of names.table name)

-- the names are as they were
abbrev pub KeepsNames : InstanceNames → InstanceNames → Type 0
KeepsNames old new = (name : ℕ) → IsAmong new name ↔ IsAmong old name

-- A new name comes to the others. One that is there is not added again; then, or where a new one finds no memory, the names are as they
-- were.
abbrev pub AddsName : InstanceNames → ℕ → Result Bool AllocError → InstanceNames → Type 0
AddsName old name (Ok true) new = ¬ (IsAmong old name) × ((other : ℕ) → IsAmong new other ↔ (IsAmong old other ⊎ (other ≡ name)))
AddsName old name (Ok false) new = IsAmong old name × KeepsNames old new
AddsName old name (Err e) new = ¬ (IsAmong old name) × KeepsNames old new
