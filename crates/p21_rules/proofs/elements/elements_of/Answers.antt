use Rattle.std.proofs.Common.{subst}
use Rattle.p21_rules.specs.Elements.{AreElements}
use Rattle.p21_rules.proofs.ExprLemmas.{unnamed}
use Rattle.p21_rules.proofs.ElementsLemmas.{entity_elements, type_named}
use Rattle.p21_rules.proofs.elements.elements_of.Goals as goal

pub elements_under-requires : goal.elements_under-requires
elements_under-requires c = (type_named c.args.schema.now c.args.texpr.now c.in-Named.target c.in-Defined.defined c.requires.0 c.in-Named.is c.in-Defined.is c.requires.1).0

pub returns-in-Entity : goal.returns-in-Entity
returns-in-Entity c x is = entity_elements c.args.schema.now c.fits.ensures c.args.texpr.now c.in-Named.target c.in-Entity.field-0 x c.in-Named.is c.in-Entity.is is

pub returns-in-Defined : goal.returns-in-Defined
returns-in-Defined c x is =
    let found = type_named c.args.schema.now c.args.texpr.now c.in-Named.target c.in-Defined.defined x c.in-Named.is c.in-Defined.is is in
    subst (λ y. AreElements c.args.schema.now y c.elements_under.result) found.1 c.elements_under.ensures

pub returns-in_default : goal.returns-in_default
returns-in_default c x is = c.plain_elements.ensures c.args.schema.now x is (unnamed c.args.schema.now c.args.texpr.now x c.in_default.not-Named is)
