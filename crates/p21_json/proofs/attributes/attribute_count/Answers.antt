use Rattle.std.proofs.Common.{Bool, refl, sym, subst}
use Rattle.p21_schema.specs.Place.{entity_at}
use Rattle.p21_schema.specs.Row.{own_attributes}
use Rattle.p21_json.specs.Rows.{AreAttributesOf}
use Rattle.p21_json.proofs.attributes.attribute_count.Goals as goal

pub returns-then-complex : goal.returns-then-complex
returns-then-complex c =
    let own = own_attributes (entity_at c.args.schema.now c.args.entity) in
    (own, (subst (λ (b : Bool). AreAttributesOf c.args.schema.now b c.args.entity own) (sym c.if-complex.true) refl, c.own_count.ensures))

pub returns-else-complex : goal.returns-else-complex
returns-else-complex c =
    let r = c.row_count.ensures in
    (r.0, (subst (λ (b : Bool). AreAttributesOf c.args.schema.now b c.args.entity r.0) (sym c.if-complex.false) r.1.0, sym r.1.1))
