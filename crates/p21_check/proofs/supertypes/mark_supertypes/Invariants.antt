use Rattle.std.proofs.Common.{take}
use Rattle.p21_check.specs.Instances.{AreMarksAbove}
use Rattle.p21_check.proofs.supertypes.mark_supertypes.Given as goal

-- the entities above those of the records so far are marked
abbrev pub invariant-loop-record : goal.invariant-loop-record
invariant-loop-record l = AreMarksAbove l.schema l.above (take l.record-index l.records)
