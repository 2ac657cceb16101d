use Rattle.p21_rows.specs.Rows.{AreMetadata, TakesSome}
use Rattle.p21_rows.proofs.metadata.insert_params.Given as goal

abbrev pub invariant-loop-position : goal.invariant-loop-position
invariant-loop-position g l = TakesSome (g.D.Rows.taken l.initial.rows) (g.D.Rows.taken l.rows) AreMetadata
