use Rattle.std.proofs.Common.{◌↔◌, drop}
use Rattle.p21_check.specs.Sets.{EachIn}
use Rattle.p21_check.specs.Instances.{NamesEntity}
use Rattle.p21_check.proofs.records.has_unknown.Given as goal

-- each is an entity where each of those that are left is
abbrev pub invariant-loop-record : goal.invariant-loop-record
invariant-loop-record l = EachIn (drop l.record-index l.records) (NamesEntity l.schema) ↔ EachIn l.records (NamesEntity l.schema)
