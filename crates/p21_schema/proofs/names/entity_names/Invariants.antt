use Rattle.std.proofs.Common.{◌≡◌, map, take}
use Rattle.p21_express.specs.Plain.{plain_entity}
use Rattle.p21_schema.proofs.names.entity_names.Given as goal

abbrev pub invariant-loop-entity : goal.invariant-loop-entity
invariant-loop-entity l = l.names ≡ take l.entity-index (map (λ d. d.name) (map plain_entity l.entities))
