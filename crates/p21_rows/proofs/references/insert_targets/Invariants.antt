use Rattle.p21_rows.proofs.RowLemmas.{ReferredUpTo}
use Rattle.p21_rows.proofs.references.insert_targets.Given as goal

abbrev pub invariant-loop-position : goal.invariant-loop-position
invariant-loop-position g l = ReferredUpTo l.source l.column (g.D.Rows.taken l.initial.rows) (g.D.Rows.taken l.rows) l.targets l.position
