-- The attributes of a record by the id of its entity.
use Rattle.std.specs.Prelude.{◌≡◌, Bool, true, false, List}
use Rattle.p21_express.specs.Schema.{Schema}
use Rattle.p21_express.specs.WellFormed.{Origin}
use Rattle.p21_schema.specs.declared.ids.EntityId.{EntityId}
use Rattle.p21_schema.specs.Place.{entity_at, entity_name}
use Rattle.p21_schema.specs.Row.{IsRow, own_attributes}

-- in a complex instance the entity's own ones, and else its row
abbrev pub AreAttributesOf : Schema → Bool → EntityId → List Origin → Type 0
AreAttributesOf s true e os = os ≡ own_attributes (entity_at s e)
AreAttributesOf s false e os = IsRow s (entity_name s e) os
