use Rattle.std.proofs.Common.{subst}
use Rattle.p21_check.specs.Lists.{AreListsOf}
use Rattle.p21_check.proofs.ExprLemmas.{unnamed}
use Rattle.p21_check.proofs.ListsLemmas.{entity_lists}
use Rattle.p21_check.proofs.WantedLemmas.{type_asked}
use Rattle.p21_check.proofs.lists.lists_of.Goals as goal

pub lists_under-requires : goal.lists_under-requires
lists_under-requires c = (type_asked c.args.schema.now c.args.texpr.now c.in-Named.target c.in-Defined.defined c.requires.0 c.in-Named.is c.in-Defined.is c.requires.1).0

pub returns-in-Entity : goal.returns-in-Entity
returns-in-Entity c x is = entity_lists c.args.schema.now c.fits.ensures c.args.texpr.now c.in-Named.target c.in-Entity.field-0 x c.in-Named.is c.in-Entity.is is

pub returns-in-Defined : goal.returns-in-Defined
returns-in-Defined c x is =
    let found = type_asked c.args.schema.now c.args.texpr.now c.in-Named.target c.in-Defined.defined x c.in-Named.is c.in-Defined.is is in
    subst (λ y. AreListsOf c.args.schema.now y c.lists_under.result) found.1 c.lists_under.ensures

pub returns-in_default : goal.returns-in_default
returns-in_default c x is = c.plain_lists.ensures c.args.schema.now x is (unnamed c.args.schema.now c.args.texpr.now x c.in_default.not-Named is)
