-- What an id names in a schema.
use Rattle.std.specs.Prelude.{◌<◌, ℕ, false, List, [], length, get_or}
use Rattle.p21_express.specs.Schema.{Schema, Entity, Defined, items}
use Rattle.p21_schema.specs.declared.ids.EntityId.{EntityId}
use Rattle.p21_schema.specs.declared.ids.TypeId.{TypeId}

-- the id is of this schema
abbrev pub IsEntityOf : Schema → EntityId → Type 0
IsEntityOf s e = e.index < length s.entities

abbrev pub no_entity : Entity
no_entity = record { name = []; is_abstract = false; supertypes = []; attributes = []; derived = [] }

-- the entity that an id names, by its place in the text
abbrev pub entity_at : Schema → EntityId → Entity
entity_at s e = get_or s.entities e.index no_entity

-- its name
abbrev pub entity_name : Schema → EntityId → List ℕ
entity_name s e = (entity_at s e).name

abbrev pub IsTypeOf : Schema → TypeId → Type 0
IsTypeOf s t = t.index < length s.types

abbrev pub no_type : Defined
no_type = record { name = []; under = items [] }

-- the type that an id names, by its place in the text
abbrev pub type_at : Schema → TypeId → Defined
type_at s t = get_or s.types t.index no_type

-- its name
abbrev pub type_name : Schema → TypeId → List ℕ
type_name s t = (type_at s t).name
