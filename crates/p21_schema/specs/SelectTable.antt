-- What SELECTs reach, by places.
use Rattle.std.specs.Prelude.{◌≡◌, ◌<◌, ◌↔◌, ℕ, List, length, get_or}
use Rattle.p21_express.specs.Schema.{Schema}
use Rattle.p21_express.specs.WellFormed.{IsEntity, IsSelect}
use Rattle.p21_graph.specs.declared.bits.Bits.{Bits}
use Rattle.p21_graph.specs.Bits.{Holds}
use Rattle.p21_schema.specs.declared.selects.Selects.{Selects}
use Rattle.p21_schema.specs.Place.{no_entity, no_type}
use Rattle.p21_schema.specs.Select.{SelectReaches}

abbrev pub entity_named : Schema → ℕ → List ℕ
entity_named s i = (get_or s.entities i no_entity).name

abbrev pub type_named : Schema → ℕ → List ℕ
type_named s i = (get_or s.types i no_type).name

-- a row for each type, which holds the places of those of some named ones that it reaches and that are as wanted
pub record IsSelectTable (s : Schema) (Wanted : List ℕ → Type 0) (size : ℕ) (named : ℕ → List ℕ) (table : Bits) : Type 0 where
  pub rows : table.rows ≡ length s.types
  pub columns : table.columns ≡ size
  pub holds : (i k : ℕ) → i < length s.types → Holds table i k ↔ ((k < size) × (Wanted (named k) × SelectReaches s (type_named s i) (named k)))

pub record AreSelectTables (s : Schema) (tables : Selects) : Type 0 where
  pub entities : IsSelectTable s (IsEntity s) (length s.entities) (entity_named s) tables.entities
  pub types : IsSelectTable s (λ n. ¬ (IsSelect s n)) (length s.types) (type_named s) tables.types
