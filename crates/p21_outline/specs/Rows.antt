-- What is kept of instances in rows, and of which.
use Rattle.std.specs.Prelude.{◌≡◌, ◌<◌, ◌≤◌, ℕ, ◌+◌, true, List, [], ◌∷◌, All, get_or, length, slice_range}
use Rattle.std.proofs.Props.{props}
use Rattle.std.specs.Coded.{Unit-prop, le_prop}
use Rattle.p21_express.specs.Schema.{Schema}
use Rattle.p21_schema.specs.Ancestry.{entity_id}
use Rattle.p21_tree.specs.declared.instances.RawInstance.{RawInstance}
use Rattle.p21_tree.specs.Views.{plain_instance}
use Rattle.p21_check.specs.declared.referred.Reference.{Reference}
use Rattle.p21_check.specs.EntityOf.{IsSimpleOf}
use Rattle.p21_check.specs.Referred.{AreReferencesOf}
use Rattle.p21_outline.specs.declared.columns.Held.{Held}
use Rattle.p21_outline.specs.declared.columns.Held.TheVariants as held
use Rattle.p21_outline.specs.declared.columns.Row.{Row}

-- what is held as whole has a place among so many
abbrev pub IsWithin : ℕ → Held → Type 0
IsWithin count (held.Simple place) = Unit {0}
IsWithin count (held.Whole place) = place < count

-- there is at most one proof of it
pub IsWithin-prop : (count : ℕ) (h : Held) → IsProp (IsWithin count h)
IsWithin-prop count (held.Simple place) = Unit-prop
IsWithin-prop count (held.Whole place) = le_prop

pub AreWithin-prop : (count : ℕ) (rows : List Row) → IsProp (All (λ row. IsWithin count row.held) rows)
AreWithin-prop count rows = hlevel IsWithin-prop

-- the instance of which this is held: one that was let go, or one of those that are whole
abbrev pub held_instance : List RawInstance → RawInstance → Held → RawInstance
held_instance wholes gone (held.Simple place) = gone
held_instance wholes gone (held.Whole place) = get_or wholes place gone

-- the instance of a row
abbrev pub row_instance : List RawInstance → Row → RawInstance
row_instance wholes row = held_instance wholes row.gone.value row.held

-- a simple instance is of the entity at this place by the schema, and one that is whole is complex
abbrev pub IsHeld : Schema → List RawInstance → RawInstance → Held → Type 0
IsHeld s wholes gone (held.Simple place) = IsSimpleOf s (plain_instance gone) (entity_id place)
IsHeld s wholes gone (held.Whole place) = (place < length wholes) × ((get_or wholes place gone).complex ≡ true)

-- there is at most one proof of it
pub IsHeld-prop : (s : Schema) (wholes : List RawInstance) (gone : RawInstance) (h : Held) → IsProp (IsHeld s wholes gone h)
IsHeld-prop s wholes gone (held.Simple place) = hlevel props
IsHeld-prop s wholes gone (held.Whole place) = hlevel props

-- the same of a row
abbrev pub IsRow : Schema → List RawInstance → Row → Type 0
IsRow s wholes row = IsHeld s wholes row.gone.value row.held

pub AreRows-prop : (s : Schema) (wholes : List RawInstance) (rows : List Row) → IsProp (All (IsRow s wholes) rows)
AreRows-prop s wholes rows = hlevel IsHeld-prop

-- of a simple instance these are the references
abbrev pub Refers : Schema → List Reference → RawInstance → Held → Type 0
Refers s references gone (held.Simple place) = AreReferencesOf s (plain_instance gone) references
Refers s references gone (held.Whole place) = Unit {0}

-- the same of a row
abbrev pub RefersAt : Schema → List Reference → Row → Type 0
RefersAt s references row = Refers s references row.gone.value row.held

-- The references of rows stand one after the other in a list, from a place up to its end.
abbrev pub HaveReferences : Schema → List Reference → ℕ → List Row → Type 0
HaveReferences s references start [] = start ≡ length references
HaveReferences s references start (row ∷ rows) = (start ≤ row.end) × (row.end ≤ length references) × RefersAt s (slice_range references start row.end) row × HaveReferences s references row.end rows

-- what is held after others, where what is whole begins at this place
abbrev pub held_behind : ℕ → Held → Held
held_behind first (held.Simple entity) = held.Simple entity
held_behind first (held.Whole place) = held.Whole (place + first)

-- a row after others, where its references begin at one place, and what is whole at another
abbrev pub row_behind : ℕ → ℕ → Row → Row
row_behind start first row = record { held = held_behind first row.held; end = row.end + start; gone = row.gone }
