use Rattle.std.proofs.Common.{◌≡◌, ◌-◌, drop, length, map}
use Rattle.p21_tree.specs.Views.{plain_instance}
use Rattle.p21_export.proofs.ModelLemmas.{WrittenUpTo}
use Rattle.p21_export.proofs.model.write_others.Given as goal

abbrev pub invariant-loop-start : goal.invariant-loop-start
invariant-loop-start g l = (g.K.Sink.failed l.out ≡ g.K.Sink.failed l.initial.out) × WrittenUpTo l.terms (g.K.Sink.taken l.initial.out) (g.K.Sink.taken l.out) (map plain_instance l.instances) (map plain_instance (drop l.start l.instances))

abbrev pub decreases-loop-start : goal.decreases-loop-start
decreases-loop-start g l = length l.instances - l.start
