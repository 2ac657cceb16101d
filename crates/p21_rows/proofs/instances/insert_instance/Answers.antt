use Rattle.std.proofs.Common.{List, map, string_bytes, subst}
use Rattle.std.proofs.lemmas.Result.{on_ok_weaker}
use Rattle.p21_tree.specs.declared.instances.Record.{Record}
use Rattle.p21_tree.specs.Views.{plain_instance, plain_record}
use Rattle.p21_rows.specs.declared.rows.Table.TheVariants.{Instances}
use Rattle.p21_rows.specs.Rows.{AreNames, AreRecordRows, IsInstanceRow, RowsOfEach, TakesSome}
use Rattle.p21_rows.proofs.RowLemmas.{leads_then}
use Rattle.p21_rows.proofs.instances.insert_instance.Goals as goal

pub returns-clause-taken : goal.returns-clause-taken
returns-clause-taken g c =
    let s = c.args.terms.now in
    let i = plain_instance c.args.instance.now in
    let a = g.D.Rows.taken c.args.rows.now in
    let b = g.D.Rows.taken c.insert.new.self in
    let d = g.D.Rows.taken c.insert_records.new.rows in
    let named = subst (λ (rs : List Record). AreNames (map plain_record rs) (string_bytes c.in_ok-names.names)) c.as_slice-records.ensures c.in_ok-names.ensures in
    on_ok_weaker c.insert_records.result
    (λ (t : TakesSome b d (RowsOfEach (AreRecordRows s i) (map plain_record c.as_slice-records.result.now))).
    leads_then (IsInstanceRow i) (RowsOfEach (AreRecordRows s i) i.records) a b d (record { table = Instances; cells = c.in_ok-cells.cells.items }) (c.in_ok-cells.ensures named) c.in_ok-insert.ensures.taken
    (subst (λ (rs : List Record). TakesSome b d (RowsOfEach (AreRecordRows s i) (map plain_record rs))) c.as_slice-records.ensures t))
    c.insert_records.ensures.taken
