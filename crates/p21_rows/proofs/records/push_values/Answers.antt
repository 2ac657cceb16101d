use Rattle.std.proofs.Common.{◌≡◌, ◌≤◌, Some, length, sym, subst, arith}
use Rattle.std.specs.Prelude.{slice_get}
use Rattle.p21_express.specs.Schema.{Schema}
use Rattle.p21_tree.specs.Views.{plain_instance}
use Rattle.p21_schema.specs.Row.{attribute_at}
use Rattle.p21_json.specs.Rows.{AreAttributesOf}
use Rattle.p21_rows.proofs.RowLemmas.{added_all, added_more, added_none}
use Rattle.p21_rows.proofs.records.push_values.Goals as goal

pub loop-position-init : goal.loop-position-init
loop-position-init c = λ os a q. added_none c.args.terms.now (plain_instance c.args.instance.now) os c.args.params.now c.args.cells.now.items

pub loop-position-preserved : goal.loop-position-preserved
loop-position-preserved c = λ os a q.
    let s = c.args.terms.now in
    let o = attribute_at s c.attribute-attribute.result in
    let e = c.schema.ensures in
    let p = c.loop-position.position in
    let of = subst (λ (y : Schema). AreAttributesOf y c.args.instance.now.complex c.args.entity os) (sym e) a in
    let found = subst (λ (y : Schema). slice_get os p ≡ Some (attribute_at y c.attribute-attribute.result)) e (c.attribute-attribute.ensures.there os of) in
    added_more s (plain_instance c.args.instance.now) os c.args.params.now c.args.cells.now.items c.loop-position.cells.items c.push.new.self.items c.loop-position.position o _ found c.in_ok-value.ensures c.in_ok-push.ensures.items (c.loop-position.invariant os a q)

pub returns : goal.returns
returns c = λ os a q.
    let last : length os ≤ c.loop-position.position = omega arith in
    added_all c.args.terms.now (plain_instance c.args.instance.now) os c.args.params.now c.args.cells.now.items c.loop-position.cells.items c.loop-position.position last (c.loop-position.invariant os a q)
