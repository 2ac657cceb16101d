use Rattle.std.proofs.Common.{◌↔◌, drop}
use Rattle.p21_check.specs.Sets.{AnyIn}
use Rattle.p21_check.specs.Instances.{LacksBelow}
use Rattle.p21_check.proofs.supertypes.lacks_subtype.Given as goal

-- some record lacks a subtype where one of those that are left does
abbrev pub invariant-loop-record : goal.invariant-loop-record
invariant-loop-record l = AnyIn (drop l.record-index l.records) (LacksBelow l.schema l.records) ↔ AnyIn l.records (LacksBelow l.schema l.records)
