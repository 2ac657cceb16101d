use Rattle.std.proofs.Common.{◌↔◌, drop}
use Rattle.p21_express.specs.WellFormed.{IsIn}
use Rattle.p21_schema.specs.Place.{entity_name}
use Rattle.p21_check.specs.Sets.{keywords_of}
use Rattle.p21_check.proofs.entity_set.is_keyword.Given as goal

-- the entity is named by a record where one of those that are left names it
abbrev pub invariant-loop-record : goal.invariant-loop-record
invariant-loop-record l = IsIn (keywords_of (drop l.record-index l.records)) (entity_name l.schema l.entity) ↔ IsIn (keywords_of l.records) (entity_name l.schema l.entity)
