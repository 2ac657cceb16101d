use Rattle.std.proofs.Common.{◌≡◌, ◌<◌, Bool, List, Some, length, sym, subst}
use Rattle.std.specs.Prelude.{slice_get}
use Rattle.p21_express.specs.WellFormed.{Origin}
use Rattle.p21_schema.specs.Row.{attribute_at}
use Rattle.p21_json.specs.Rows.{AreAttributesOf}
use Rattle.p21_json.proofs.attributes.attribute.Goals as goal

pub own-requires-clause-position : goal.own-requires-clause-position
own-requires-clause-position c =
    let r = c.requires.position in
    let there = subst (λ (b : Bool). AreAttributesOf c.args.schema.now b c.args.entity r.0) c.if-complex.true r.1.0 in
    subst (λ (l : List Origin). c.args.position < length l) there r.1.1

pub row-requires-clause-position : goal.row-requires-clause-position
row-requires-clause-position c =
    let r = c.requires.position in
    (r.0, (subst (λ (b : Bool). AreAttributesOf c.args.schema.now b c.args.entity r.0) c.if-complex.false r.1.0, r.1.1))

pub returns-then-complex-clause-there : goal.returns-then-complex-clause-there
returns-then-complex-clause-there c = λ os a.
    let there = subst (λ (b : Bool). AreAttributesOf c.args.schema.now b c.args.entity os) c.if-complex.true a in
    subst (λ (l : List Origin). slice_get l c.args.position ≡ Some (attribute_at c.args.schema.now c.own.result)) (sym there) c.own.ensures.own

pub returns-else-complex-clause-there : goal.returns-else-complex-clause-there
returns-else-complex-clause-there c = λ os a. c.row.ensures.row os (subst (λ (b : Bool). AreAttributesOf c.args.schema.now b c.args.entity os) c.if-complex.false a)
