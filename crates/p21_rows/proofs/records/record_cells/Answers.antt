use Rattle.std.proofs.Common.{◌≡◌, ◌-◌, List, ℕ, length, subst, arith}
use Rattle.p21_express.specs.Schema.{Schema}
use Rattle.p21_schema.specs.Place.{entity_name}
use Rattle.p21_schema.specs.Row.{IsRow}
use Rattle.p21_tree.specs.declared.params.Param.{Param}
use Rattle.p21_tree.specs.Plain.{plain_all}
use Rattle.p21_tree.specs.Views.{plain_instance}
use Rattle.p21_json.specs.Rows.{AreAttributesOf}
use Rattle.p21_rows.specs.Cells.{number_cell}
use Rattle.p21_rows.specs.Rows.{AreCells}
use Rattle.p21_rows.proofs.RowLemmas.{attributes_by, parts_of}
use Rattle.p21_rows.proofs.records.record_cells.Goals as goal

pub returns : goal.returns
returns c =
    let s = c.args.terms.now in
    let e = c.args.entity in
    let k = c.args.record.now.keyword.now in
    let i = c.args.instance.now in
    let given = c.attribute_count-count.ensures in
    let row = c.row_count-width.ensures in
    let of = subst (λ (y : Schema). AreAttributesOf y i.complex e given.0) c.schema.ensures given.1.0 in
    let values = c.in_ok-push_values.ensures given.0 of given.1.1 in
    let less : c.saturating_sub.result ≡ length row.0 - length given.0 = omega arith in
    record {
      row = row.0;
      is_row = subst (λ (n : List ℕ). IsRow s n row.0) c.requires.named (subst (λ (y : Schema). IsRow y (entity_name y e) row.0) c.schema-2.ensures row.1.0);
      given = given.0;
      are_given = attributes_by s i.complex e k given.0 c.requires.entity c.requires.named of;
      values = values.0;
      are_values = subst (λ (ps : List Param). AreCells s (plain_instance i) given.0 (plain_all ps) values.0) c.as_slice-params.ensures values.1.0;
      parts = parts_of c.number.result (number_cell i.name) c.saturating_sub.result (length row.0 - length given.0) c.in_ok-cells.cells.items c.push.new.self.items c.push_nulls.new.cells.items c.push_values.new.cells.items values.0
          c.number.ensures less c.in_ok-cells.ensures.items c.in_ok-push.ensures.items c.in_ok-push_nulls.ensures values.1.1;
    }
