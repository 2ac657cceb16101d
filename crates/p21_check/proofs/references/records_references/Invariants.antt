use Rattle.std.proofs.Common.{ℕ, ◌<◌}
use Rattle.p21_tree.specs.declared.faults.FaultKind.{FaultKind}
use Rattle.p21_check.specs.Instances.{complex_instance}
use Rattle.p21_check.specs.References.{HasFaultAt}
use Rattle.p21_check.proofs.references.records_references.Given as goal

-- the records before this one have no fault
abbrev pub invariant-loop-rec : goal.invariant-loop-rec
invariant-loop-rec g l = (name at r a p : ℕ) (f : FaultKind) → r < l.rec → ¬ (HasFaultAt l.schema (g.J.NameJudge.named l.judge) (complex_instance name at l.records) r a p f)
