use Rattle.std.proofs.Common.{Bool, sym, subst}
use Rattle.p21_schema.specs.Place.{entity_at, entity_name}
use Rattle.p21_schema.specs.Row.{own_attributes}
use Rattle.p21_check.specs.Attributes.{AreAttributes}
use Rattle.p21_check.specs.Attributes as attributes
use Rattle.p21_rules.proofs.ParameterLemmas.{own_of}
use Rattle.p21_rules.proofs.attributes.attribute_count.Goals as goal

pub returns-then-complex : goal.returns-then-complex
returns-then-complex c =
    let own = own_attributes (entity_at c.args.schema.now c.args.entity) in
    (own, (subst (λ (b : Bool). AreAttributes c.args.schema.now b (entity_name c.args.schema.now c.args.entity) own) (sym c.if-complex.true) (own_of c.args.schema.now c.args.entity c.requires), c.own_count.ensures))

pub returns-else-complex : goal.returns-else-complex
returns-else-complex c =
    let r = c.row_count.ensures in
    (r.0, (subst (λ (b : Bool). AreAttributes c.args.schema.now b (entity_name c.args.schema.now c.args.entity) r.0) (sym c.if-complex.false) (attributes.simple r.1.0), sym r.1.1))
