-- Declarations by the places of the attributes.
use Rattle.std.specs.Prelude.{◌≡◌, ◌<◌, ℕ, List, [], map, length, get_or, Option, MatchOption}
use Rattle.p21_express.specs.Plain.{plain_schema}
use Rattle.p21_express.specs.Schema.{Schema}
use Rattle.p21_express.specs.WellFormed.{IsIn, IsWellFormed, IsOrigin, Origin, new_explicit}
use Rattle.p21_schema.specs.declared.declarations.Declaration.{Declaration as Coded}
use Rattle.p21_schema.specs.declared.declarations.Known.{Known}
use Rattle.p21_schema.specs.Ancestry.{IsAncestryTable}
use Rattle.p21_schema.specs.Declaration.{Declaration, Written, Declares, Chosen, declaration, AreResolvedIn}
use Rattle.p21_schema.specs.Place.{no_entity}
use Rattle.p21_schema.specs.Row.{attributes_of, no_attribute}
use Rattle.p21_schema.specs.RowTable.{IsOwnTable}
use Rattle.p21_schema.specs.Rules.{with_rules}

-- the declarations of an attribute among those of a list
pub record AreAmong (s : Schema) (o : Origin) (ws : List Written) (ds : List Coded) : Type 0 where
  pub all : List Declaration
  pub chosen : Chosen (Declares s o) declaration ws all
  pub resolved : AreResolvedIn s ds all

-- a row for each attribute, of its declarations among those of a list
pub record IsDeclarationTable (s : Schema) (ws : List Written) (table : List (List Coded)) : Type 0 where
  pub count : length table ≡ length (attributes_of s.entities)
  pub rows : (i : ℕ) → i < length (attributes_of s.entities) → AreAmong s (get_or (attributes_of s.entities) i no_attribute) ws (get_or table i [])

-- the entity at a place newly declares no explicit attribute of this name
abbrev pub IsNotOwn : Schema → ℕ → List ℕ → Type 0
IsNotOwn s e n = ¬ (IsIn (new_explicit (get_or s.entities e no_entity).attributes) n)

-- the attribute at a place is the one of this name that the entity at a place newly declares
pub record IsOwnAt (s : Schema) (e : ℕ) (n : List ℕ) (i : ℕ) : Type 0 where
  pub below : i < length (attributes_of s.entities)
  pub is : get_or (attributes_of s.entities) i no_attribute ≡ record { entity = (get_or s.entities e no_entity).name; name = n }
  pub newly : IsIn (new_explicit (get_or s.entities e no_entity).attributes) n

-- the attribute at a place is one of this name that an entity or an ancestor of it newly declares
pub record IsOriginAt (s : Schema) (of n : List ℕ) (i : ℕ) : Type 0 where
  pub below : i < length (attributes_of s.entities)
  pub name : (get_or (attributes_of s.entities) i no_attribute).name ≡ n
  pub origin : IsOrigin s of n (get_or (attributes_of s.entities) i no_attribute).entity

-- what is written declares the attribute at this place, or none
abbrev pub IsDeclared : Schema → Written → Option ℕ → Type 0
IsDeclared s w place = MatchOption place ((o : Origin) → IsIn (attributes_of s.entities) o → ¬ (Declares s o w)) (λ i. (i < length (attributes_of s.entities)) × Declares s (get_or (attributes_of s.entities) i no_attribute) w)

-- the schema that is looked up in
abbrev pub known_schema : Known → Schema
known_schema k = with_rules (plain_schema k.declarations.now) k.rules

-- what is looked up in is the schema's, which fits together
pub record IsFitting (k : Known) : Type 0 where
  pub well_formed : IsWellFormed (known_schema k)
  pub entities : k.entities.now ≡ map (λ e. e.name) (known_schema k).entities
  pub types : k.types.now ≡ map (λ t. t.name) (known_schema k).types
  pub ancestry : IsAncestryTable (known_schema k) k.ancestry.now
  pub own : IsOwnTable (known_schema k) k.own.now
