use Rattle.std.proofs.Common.{◌++◌, List, [], take, drop, map}
use Rattle.p21_tree.specs.Views.{plain_instance}
use Rattle.p21_rules.specs.declared.unique.NotUnique.{NotUnique}
use Rattle.p21_rules.specs.Firsts.{Holds}
use Rattle.p21_rules.specs.NotUnique.{AreFaultsBehind}
use Rattle.p21_rules.proofs.unique.all_not_unique.Given as goal

-- the faults so far, and those of the instances that are left, are all
abbrev pub invariant-loop-place : goal.invariant-loop-place
invariant-loop-place l =
    record {
      held : Holds l.schema l.rules l.firsts (λ k. map plain_instance (take l.place l.instances));
      told : (fs : List NotUnique) → AreFaultsBehind l.schema l.rules (map plain_instance (take l.place l.instances)) (map plain_instance (drop l.place l.instances)) fs
          → AreFaultsBehind l.schema l.rules [] (map plain_instance l.instances) (l.faults.items ++ fs);
    }
