use Rattle.p21_tree.specs.Views.{plain_instance}
use Rattle.p21_rows.specs.Rows.{AreInstanceRows}
use Rattle.p21_rows.proofs.RowLemmas.{TakenUpTo}
use Rattle.p21_rows.proofs.instances.insert_instances.Given as goal

abbrev pub invariant-loop-instance : goal.invariant-loop-instance
invariant-loop-instance g l = TakenUpTo (AreInstanceRows l.terms) plain_instance (g.D.Rows.taken l.initial.rows) (g.D.Rows.taken l.rows) l.instances l.instance-index
