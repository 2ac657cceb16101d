use Rattle.std.proofs.Common.{◌↔◌, drop}
use Rattle.p21_check.specs.Sets.{AnyIn, HasEntity}
use Rattle.p21_check.specs.Instances.{LacksAbove}
use Rattle.p21_check.proofs.supertypes.lacks_supertype.Given as goal

-- some record lacks a supertype where one of those that are left does
abbrev pub invariant-loop-record : goal.invariant-loop-record
invariant-loop-record l = AnyIn (drop l.record-index l.records) (LacksAbove l.schema (HasEntity l.schema l.set)) ↔ AnyIn l.records (LacksAbove l.schema (HasEntity l.schema l.set))
