use Rattle.std.proofs.Common.{sym, subst}
use Rattle.std.specs.Prelude.{IfSome}
use Rattle.p21_express.specs.Schema.{Expr}
use Rattle.p21_schema.specs.Place.{type_name}
use Rattle.p21_check.specs.Shape.{TakesElements}
use Rattle.p21_check.proofs.ShapeLemmas.{elements_under, named_type}
use Rattle.p21_check.proofs.shape.elements_of.Goals as goal

pub under-requires : goal.under-requires
under-requires c = (named_type c.args.schema.now c.args.texpr.now c.in-Named.target c.in-Defined.id c.requires.0 c.requires.1 c.in-Named.is c.in-Defined.is).1

pub returns-in-Plain : goal.returns-in-Plain
returns-in-Plain c e h =
    let s = c.args.schema.now in
    let n = named_type s c.args.texpr.now c.in-Named.target c.in-Defined.id e h c.in-Named.is c.in-Defined.is in
    let u = c.under.ensures in
    subst (λ (x : Expr). IfSome c.listed.result (TakesElements s x)) (sym n.0)
    (elements_under s c.fits.ensures (type_name s c.in-Defined.id) c.under.result.now u.0 c.in-Plain.under c.listed.result u.1.0 u.1.1 c.in-Plain.is (c.listed.ensures s))
