use Rattle.std.proofs.Common.{refl}
use Rattle.p21_rows.specs.declared.rows.Table.TheVariants.{References}
use Rattle.p21_rows.proofs.RowLemmas.{referred_all, referred_more, referred_none}
use Rattle.p21_rows.proofs.references.insert_targets.Goals as goal

pub loop-position-init : goal.loop-position-init
loop-position-init g c = referred_none c.args.source c.args.column.now (g.D.Rows.taken c.args.rows.now) c.args.targets.now

pub loop-position-preserved : goal.loop-position-preserved
loop-position-preserved g c =
    referred_more c.args.source c.args.column.now (g.D.Rows.taken c.args.rows.now) (g.D.Rows.taken c.loop-position.rows) (g.D.Rows.taken c.insert.new.self) c.args.targets.now c.loop-position.position _ (record { table = References; cells = c.in_ok-cells.cells.items })
    c.loop-position-test.true refl c.in_ok-cells.ensures c.in_ok-insert.ensures.taken c.loop-position.invariant

pub returns-clause-taken : goal.returns-clause-taken
returns-clause-taken g c = referred_all c.args.source c.args.column.now (g.D.Rows.taken c.args.rows.now) (g.D.Rows.taken c.loop-position.rows) c.args.targets.now c.loop-position.position c.loop-position-test.false c.loop-position.invariant
