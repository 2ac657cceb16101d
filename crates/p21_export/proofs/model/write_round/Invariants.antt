use Rattle.std.proofs.Common.{◌≡◌, ◌*◌, drop, map}
use Rattle.p21_tree.specs.Views.{plain_instance}
use Rattle.p21_export.proofs.ModelLemmas.{WrittenUpTo}
use Rattle.p21_export.proofs.model.write_round.Given as goal

abbrev pub invariant-loop-text : goal.invariant-loop-text
invariant-loop-text g l = (g.K.Sink.failed l.out ≡ g.K.Sink.failed l.initial.out) × WrittenUpTo l.terms (g.K.Sink.taken l.initial.out) (g.K.Sink.taken l.out) (map plain_instance l.instances) (map plain_instance (drop (l.text-index * l.size) l.instances))
