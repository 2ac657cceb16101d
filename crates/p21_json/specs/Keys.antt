-- The keys of the attributes of a record.
use Rattle.std.specs.Prelude.{◌≡◌, ◌<◌, ℕ, Bool, false, List, [], ◌∷◌, ◌++◌, ◌||◌, if◌then◌else◌, Some, get_or, length, map, slice_get, take}
use Rattle.std.specs.List.{AllByRecursion}
use Rattle.std.specs.Str.{bytes_eq}
use Rattle.p21_text.specs.Spelling.{IsName}
use Rattle.p21_express.specs.Schema.{Schema}
use Rattle.p21_express.specs.WellFormed.{Origin, new_explicit}
use Rattle.p21_schema.specs.declared.ids.EntityId.{EntityId}
use Rattle.p21_schema.specs.Place.{IsEntityOf, entity_name}
use Rattle.p21_schema.specs.Row.{IsRow, attributes_of}
use Rattle.p21_json.specs.declared.keys.DeclaredName.{DeclaredName}

-- one of the attributes has this name
abbrev pub has_name : List Origin → List ℕ → Bool
has_name [] n = false
has_name (o ∷ os) n = bytes_eq o.name n || has_name os n

-- the name of an attribute after that of the entity that declares it, with a point between them
abbrev pub full_name : Origin → List ℕ
full_name o = o.entity ++ 46 ∷ o.name

-- The key of an attribute after some others of the record: its name; its full name where one of these has its name.
abbrev pub key_of : List Origin → Origin → List ℕ
key_of before o = if has_name before o.name then full_name o else o.name

-- the keys of attributes after some others, in order
abbrev pub keys_behind : List Origin → List Origin → List (List ℕ)
keys_behind before [] = []
keys_behind before (o ∷ os) = key_of before o ∷ keys_behind (before ++ o ∷ []) os

-- what a schema declares is called by names: each entity, and the attributes that it newly declares
abbrev pub HasNames : Schema → Type 0
HasNames s = AllByRecursion (λ e. IsName e.name × AllByRecursion IsName (new_explicit e.attributes)) s.entities

-- ---- how the code keeps them

-- an attribute as it is newly declared
abbrev pub origin_of : Schema → DeclaredName → Origin
origin_of s d = record { entity = entity_name s d.entity; name = d.name.now }

-- each is declared by an entity of the schema
abbrev pub AreByEntities : Schema → List DeclaredName → Type 0
AreByEntities s ds = AllByRecursion (λ d. IsEntityOf s d.entity) ds

-- the attributes of a schema, in the order of its text
pub record AreDeclared (s : Schema) (ds : List DeclaredName) : Type 0 where
  pub same : map (origin_of s) ds ≡ attributes_of s.entities
  pub by : AreByEntities s ds

-- whether attributes of the entity's row, from the first on, have the name of one before them
abbrev pub AreFlags : Schema → EntityId → List Bool → Type 0
AreFlags s e flags = (os : List Origin) → IsRow s (entity_name s e) os → (p : ℕ) (o : Origin) → p < length flags → slice_get os p ≡ Some o → get_or flags p false ≡ has_name (take p os) o.name
