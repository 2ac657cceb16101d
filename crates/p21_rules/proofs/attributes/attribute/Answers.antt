use Rattle.std.proofs.Common.{◌≡◌, ◌<◌, Bool, List, Some, length, subst}
use Rattle.std.specs.Prelude.{slice_get}
use Rattle.p21_express.specs.WellFormed.{Origin}
use Rattle.p21_schema.specs.Place.{entity_name}
use Rattle.p21_schema.specs.Row.{attribute_at}
use Rattle.p21_check.specs.Attributes.{AreAttributes}
use Rattle.p21_rules.proofs.ParameterLemmas.{own_of, row_of, one_list}
use Rattle.p21_rules.proofs.attributes.attribute.Goals as goal

pub own-requires-clause-position : goal.own-requires-clause-position
own-requires-clause-position c =
    let r = c.requires.position in
    let there = subst (λ (b : Bool). AreAttributes c.args.schema.now b (entity_name c.args.schema.now c.args.entity) r.0) c.if-complex.true r.1.0 in
    subst (λ (l : List Origin). c.args.position < length l) (one_list c.args.schema.now c.fits.ensures there (own_of c.args.schema.now c.args.entity c.requires.entity)) r.1.1

pub returns-then-complex-clause-there : goal.returns-then-complex-clause-there
returns-then-complex-clause-there c = λ os a.
    let there = subst (λ (b : Bool). AreAttributes c.args.schema.now b (entity_name c.args.schema.now c.args.entity) os) c.if-complex.true a in
    subst (λ (l : List Origin). slice_get l c.args.position ≡ Some (attribute_at c.args.schema.now c.own.result)) (one_list c.args.schema.now c.fits.ensures (own_of c.args.schema.now c.args.entity c.requires.entity) there) c.own.ensures.own

pub returns-else-complex-clause-there : goal.returns-else-complex-clause-there
returns-else-complex-clause-there c = λ os a.
    c.row.ensures.row os (row_of (subst (λ (b : Bool). AreAttributes c.args.schema.now b (entity_name c.args.schema.now c.args.entity) os) c.if-complex.false a))
