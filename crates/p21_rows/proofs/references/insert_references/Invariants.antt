use Rattle.p21_tree.specs.Plain.{plain}
use Rattle.p21_rows.specs.Rows.{AreReferencesOf}
use Rattle.p21_rows.proofs.RowLemmas.{TakenUpTo}
use Rattle.p21_rows.proofs.references.insert_references.Given as goal

abbrev pub invariant-loop-position : goal.invariant-loop-position
invariant-loop-position g l = TakenUpTo (AreReferencesOf l.source) plain (g.D.Rows.taken l.initial.rows) (g.D.Rows.taken l.rows) l.params l.position
