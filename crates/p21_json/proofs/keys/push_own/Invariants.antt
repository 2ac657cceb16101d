use Rattle.std.proofs.Common.{◌≡◌, ◌++◌, map, take}
use Rattle.p21_express.specs.Schema.{Schema}
use Rattle.p21_express.specs.WellFormed.{Origin, new_explicit}
use Rattle.p21_express.specs.Plain.{plain_entity}
use Rattle.p21_schema.specs.Place.{IsEntityOf, entity_name}
use Rattle.p21_json.specs.Keys.{AreByEntities, origin_of}
use Rattle.p21_json.proofs.keys.push_own.Given as goal

-- the attributes so far are added
abbrev pub invariant-loop-attribute : goal.invariant-loop-attribute
invariant-loop-attribute l =
    ((s : Schema) → IsEntityOf s l.entity → AreByEntities s l.initial.all.items → AreByEntities s l.all.items) ×
    ((s : Schema) → entity_name s l.entity ≡ (plain_entity l.declaration).name
    → map (origin_of s) l.all.items ≡ map (origin_of s) l.initial.all.items ++ map (λ n. let o : Origin = record { entity = (plain_entity l.declaration).name; name = n } in o) (new_explicit (take l.attribute-index (plain_entity l.declaration).attributes)))
