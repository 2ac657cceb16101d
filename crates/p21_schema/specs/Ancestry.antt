-- Supertypes and ancestors by their places.
use Rattle.std.specs.Prelude.{◌≡◌, ◌<◌, ◌↔◌, ◌⊎◌, ℕ, List, [], map, length, get_or}
use Rattle.p21_express.specs.Schema.{Schema, Entity}
use Rattle.p21_express.specs.WellFormed.{IsIn, IsAncestor}
use Rattle.p21_graph.specs.declared.bits.Bits.{Bits}
use Rattle.p21_graph.specs.Bits.{Holds}
use Rattle.p21_schema.specs.declared.ids.EntityId.{EntityId}
use Rattle.p21_schema.specs.Place.{no_entity, entity_name, IsEntityOf}

abbrev pub entity_id : ℕ → EntityId
entity_id i = record { index = i }

-- these places have these names, in order
pub record AreNamed (names : List (List ℕ)) (places : List ℕ) (ns : List (List ℕ)) : Type 0 where
  pub named : map (λ i. get_or names i []) places ≡ ns
  pub below : (i : ℕ) → IsIn places i → i < length names

-- a row for each entity, of the places of its supertypes
pub record AreSupertypesNamed (names : List (List ℕ)) (graph : List (List ℕ)) (entities : List Entity) : Type 0 where
  pub count : length graph ≡ length entities
  pub rows : (i : ℕ) → i < length entities → AreNamed names (get_or graph i []) (get_or entities i no_entity).supertypes

-- the ids name entities of the schema by these names, in order
pub record NameEntities (s : Schema) (ids : List EntityId) (ns : List (List ℕ)) : Type 0 where
  pub named : map (λ e. entity_name s e) ids ≡ ns
  pub known : (e : EntityId) → IsIn ids e → IsEntityOf s e

-- a row for each entity, of its supertypes
pub record IsSupertypeTable (s : Schema) (table : List (List EntityId)) : Type 0 where
  pub count : length table ≡ length s.entities
  pub rows : (i : ℕ) → i < length s.entities → NameEntities s (get_or table i []) (get_or s.entities i no_entity).supertypes

-- the entity a is the entity b, or b is an ancestor of it
abbrev pub IsA : Schema → EntityId → EntityId → Type 0
IsA s a b = (entity_name s a ≡ entity_name s b) ⊎ IsAncestor s (entity_name s a) (entity_name s b)

-- a row for each entity, which holds itself and its ancestors
pub record IsAncestryTable (s : Schema) (table : Bits) : Type 0 where
  pub rows : table.rows ≡ length s.entities
  pub columns : table.columns ≡ length s.entities
  pub holds : (a b : ℕ) → a < length s.entities → b < length s.entities → Holds table a b ↔ IsA s (entity_id a) (entity_id b)
