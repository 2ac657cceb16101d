use Rattle.std.proofs.Common.{drop}
use Rattle.p21_schema.specs.Place.{entity_name}
use Rattle.p21_check.specs.Sets.{AnyIn}
use Rattle.p21_json.specs.Where.{IsBelow}
use Rattle.p21_json.proofs.attributes.is_of.Given as goal

-- a record that names one below the entity is among those that are left
abbrev pub invariant-loop-record : goal.invariant-loop-record
invariant-loop-record l =
    AnyIn l.record-items (λ r. IsBelow l.schema r.keyword.now (entity_name l.schema l.entity)) → AnyIn (drop l.record-index l.record-items) (λ r. IsBelow l.schema r.keyword.now (entity_name l.schema l.entity))
