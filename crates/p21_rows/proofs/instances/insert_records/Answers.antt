use Rattle.p21_tree.specs.Views.{plain_instance, plain_record}
use Rattle.p21_rows.specs.Rows.{AreRecordRows}
use Rattle.p21_rows.proofs.RowLemmas.{known_record, taken_all, taken_more, taken_none}
use Rattle.p21_rows.proofs.instances.insert_records.Goals as goal

pub loop-record-init : goal.loop-record-init
loop-record-init g c = taken_none (AreRecordRows c.args.terms.now (plain_instance c.args.instance.now)) plain_record (g.D.Rows.taken c.args.rows.now) c.args.records.now

pub insert_record-requires : goal.insert_record-requires
insert_record-requires g c = known_record c.args.terms.now c.args.records.now c.loop-record.record-index c.record-item.result c.requires c.loop-record-test.true c.record-item.is

pub loop-record-preserved : goal.loop-record-preserved
loop-record-preserved g c =
    taken_more (AreRecordRows c.args.terms.now (plain_instance c.args.instance.now)) plain_record (g.D.Rows.taken c.args.rows.now) (g.D.Rows.taken c.loop-record.rows) (g.D.Rows.taken c.insert_record.new.rows) c.args.records.now c.loop-record.record-index c.record-item.result
    c.loop-record-test.true c.record-item.is c.loop-record.invariant c.in_ok-insert_record.ensures.taken

pub returns-clause-taken : goal.returns-clause-taken
returns-clause-taken g c = taken_all (AreRecordRows c.args.terms.now (plain_instance c.args.instance.now)) plain_record (g.D.Rows.taken c.args.rows.now) (g.D.Rows.taken c.loop-record.rows) c.args.records.now c.loop-record.record-index c.loop-record-test.false c.loop-record.invariant
