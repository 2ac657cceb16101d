use Rattle.std.proofs.Common.{drop}
use Rattle.p21_schema.specs.Place.{entity_name}
use Rattle.p21_check.specs.Sets.{AnyIn}
use Rattle.p21_query.specs.Wanted.{IsMeant}
use Rattle.p21_query.proofs.entities.is_wanted.Given as goal

-- a record that names what is meant is among those that are left
abbrev pub invariant-loop-record : goal.invariant-loop-record
invariant-loop-record l =
    AnyIn l.record-items (λ r. IsMeant l.schema l.subtypes r.keyword.now (entity_name l.schema l.entity)) → AnyIn (drop l.record-index l.record-items) (λ r. IsMeant l.schema l.subtypes r.keyword.now (entity_name l.schema l.entity))
