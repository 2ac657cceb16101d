use Rattle.p21_tree.specs.Views.{plain_instance}
use Rattle.p21_rows.specs.Rows.{AreInstanceRows}
use Rattle.p21_rows.proofs.RowLemmas.{known_instance, taken_all, taken_more, taken_none}
use Rattle.p21_rows.proofs.instances.insert_instances.Goals as goal

pub loop-instance-init : goal.loop-instance-init
loop-instance-init g c = taken_none (AreInstanceRows c.args.terms.now) plain_instance (g.D.Rows.taken c.args.rows.now) c.args.instances.now

pub insert_instance-requires : goal.insert_instance-requires
insert_instance-requires g c = known_instance c.args.terms.now c.args.instances.now c.loop-instance.instance-index c.instance-item.result c.requires c.loop-instance-test.true c.instance-item.is

pub loop-instance-preserved : goal.loop-instance-preserved
loop-instance-preserved g c =
    taken_more (AreInstanceRows c.args.terms.now) plain_instance (g.D.Rows.taken c.args.rows.now) (g.D.Rows.taken c.loop-instance.rows) (g.D.Rows.taken c.insert_instance.new.rows) c.args.instances.now c.loop-instance.instance-index c.instance-item.result
    c.loop-instance-test.true c.instance-item.is c.loop-instance.invariant c.in_ok-insert_instance.ensures.taken

pub returns-clause-taken : goal.returns-clause-taken
returns-clause-taken g c = taken_all (AreInstanceRows c.args.terms.now) plain_instance (g.D.Rows.taken c.args.rows.now) (g.D.Rows.taken c.loop-instance.rows) c.args.instances.now c.loop-instance.instance-index c.loop-instance-test.false c.loop-instance.invariant
