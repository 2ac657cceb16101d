use Rattle.p21_rows.proofs.RowLemmas.{about_none, about_then}
use Rattle.p21_rows.proofs.metadata.insert_params.Goals as goal

pub loop-position-init : goal.loop-position-init
loop-position-init g c = about_none (g.D.Rows.taken c.args.rows.now)

pub loop-position-preserved : goal.loop-position-preserved
loop-position-preserved g c = about_then (g.D.Rows.taken c.args.rows.now) (g.D.Rows.taken c.loop-position.rows) (g.D.Rows.taken c.insert_value.new.rows) c.loop-position.invariant c.in_ok-insert_value.ensures.taken
