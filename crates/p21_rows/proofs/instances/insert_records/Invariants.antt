use Rattle.p21_tree.specs.Views.{plain_instance, plain_record}
use Rattle.p21_rows.specs.Rows.{AreRecordRows}
use Rattle.p21_rows.proofs.RowLemmas.{TakenUpTo}
use Rattle.p21_rows.proofs.instances.insert_records.Given as goal

abbrev pub invariant-loop-record : goal.invariant-loop-record
invariant-loop-record g l = TakenUpTo (AreRecordRows l.terms (plain_instance l.instance)) plain_record (g.D.Rows.taken l.initial.rows) (g.D.Rows.taken l.rows) l.records l.record-index
