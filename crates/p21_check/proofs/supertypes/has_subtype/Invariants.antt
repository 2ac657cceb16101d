use Rattle.std.proofs.Common.{◌↔◌, drop}
use Rattle.p21_schema.specs.Place.{entity_name}
use Rattle.p21_check.specs.Sets.{AnyIn}
use Rattle.p21_check.specs.Instances.{IsSubtypeRecord}
use Rattle.p21_check.proofs.supertypes.has_subtype.Given as goal

-- some record is of a subtype where one of those that are left is
abbrev pub invariant-loop-record : goal.invariant-loop-record
invariant-loop-record l = AnyIn (drop l.record-index l.records) (IsSubtypeRecord l.schema (entity_name l.schema l.entity)) ↔ AnyIn l.records (IsSubtypeRecord l.schema (entity_name l.schema l.entity))
