-- Marks of entities in a table, by their places among the entities of the schema.
use Rattle.std.specs.Prelude.{◌≡◌, ◌⊎◌, ◌↔◌, ◌<◌, ℕ, Bool, true, false, List, get_or, length}
use Rattle.p21_express.specs.Schema.{Schema}
use Rattle.p21_express.specs.WellFormed.{IsIn}
use Rattle.p21_schema.specs.declared.ids.EntityId.{EntityId}
use Rattle.p21_schema.specs.Place.{entity_name, IsEntityOf}

-- the mark at the entity's place is set
abbrev pub IsMarked : List Bool → EntityId → Type 0
IsMarked marks e = get_or marks e.index false ≡ true

-- of the entities that have a mark just those are marked that were before, and these
abbrev pub AreAdded : List Bool → List Bool → List EntityId → Type 0
AreAdded old new es = (e : EntityId) → e.index < length new → IsMarked new e ↔ (IsIn es e ⊎ IsMarked old e)

-- of the entities that have a mark just those are marked whose name is such
abbrev pub AreMarksOf : Schema → List Bool → (List ℕ → Type 0) → Type 0
AreMarksOf s marks P = (e : EntityId) → IsEntityOf s e → e.index < length marks → IsMarked marks e ↔ P (entity_name s e)
