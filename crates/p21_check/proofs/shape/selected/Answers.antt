use Rattle.std.proofs.Common.{sym, subst}
use Rattle.std.specs.Prelude.{IfSome}
use Rattle.p21_express.specs.Schema.{Expr}
use Rattle.p21_schema.specs.Place.{type_name}
use Rattle.p21_check.specs.Shape.{TakesTyped}
use Rattle.p21_check.proofs.ShapeLemmas.{named_type, typed_under}
use Rattle.p21_check.proofs.shape.selected.Goals as goal

pub under-requires : goal.under-requires
under-requires c = (named_type c.args.schema.now c.args.texpr.now c.in-Named.target c.in-Defined.select c.requires.0 c.requires.1 c.in-Named.is c.in-Defined.is).1

pub select_has-requires : goal.select_has-requires
select_has-requires c = (named_type c.args.schema.now c.args.texpr.now c.in-Named.target c.in-Defined.select c.requires.0 c.requires.1 c.in-Named.is c.in-Defined.is).1

pub returns-in-Select-clause-takes : goal.returns-in-Select-clause-takes
returns-in-Select-clause-takes c e h =
    let s = c.args.schema.now in
    let n = named_type s c.args.texpr.now c.in-Named.target c.in-Defined.select e h c.in-Named.is c.in-Defined.is in
    let u = c.under.ensures in
    subst (λ (x : Expr). IfSome c.select_has.result (TakesTyped s x c.args.keyword.now)) (sym n.0)
    (typed_under s c.fits.ensures (type_name s c.in-Defined.select) c.under.result.now u.0 c.in-Select.field-0 c.args.keyword.now c.select_has.result u.1.0 u.1.1 c.in-Select.is c.select_has.ensures)
