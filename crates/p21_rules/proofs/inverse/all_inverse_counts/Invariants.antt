use Rattle.std.proofs.Common.{◌++◌, List, drop, map}
use Rattle.p21_tree.specs.Views.{plain_instance}
use Rattle.p21_rules.specs.declared.inverse.InverseCount.{InverseCount}
use Rattle.p21_rules.specs.InverseCount.{AreCountsOf}
use Rattle.p21_rules.proofs.inverse.all_inverse_counts.Given as goal

-- the faults so far, and those of the instances that are left, are all
abbrev pub invariant-loop-place : goal.invariant-loop-place
invariant-loop-place l = (fs : List InverseCount) → AreCountsOf l.schema l.rules (map plain_instance l.instances) (map plain_instance (drop l.place l.instances)) fs
    → AreCountsOf l.schema l.rules (map plain_instance l.instances) (map plain_instance l.instances) (l.faults.items ++ fs)
