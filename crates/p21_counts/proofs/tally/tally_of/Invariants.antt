use Rattle.std.proofs.Common.{map, take}
use Rattle.p21_tree.specs.Views.{plain_instance}
use Rattle.p21_counts.specs.Tally.{IsTallyOf}
use Rattle.p21_counts.proofs.tally.tally_of.Given as goal

abbrev pub invariant-loop-instance : goal.invariant-loop-instance
invariant-loop-instance l = IsTallyOf l.tally (map plain_instance (take l.instance-index l.instances))
