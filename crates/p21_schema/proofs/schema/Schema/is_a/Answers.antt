use Rattle.std.proofs.Common.{◌<◌, sym, subst}
use Rattle.p21_express.specs.Schema.{Schema}
use Rattle.p21_schema.specs.Tables.{schema_of}
use Rattle.p21_schema.specs.Place.{IsEntityOf}
use Rattle.p21_schema.proofs.schema.Schema.is_a.Goals as goal

pub has-requires-clause-row : goal.has-requires-clause-row
has-requires-clause-row c = subst (λ u. c.args.entity.index < u) (sym c.self.invariant.ancestry.rows) (subst (λ (u : Schema). IsEntityOf u c.args.entity) (sym c.self.view_is) c.requires.entity)

pub has-requires-clause-column : goal.has-requires-clause-column
has-requires-clause-column c = subst (λ u. c.args.other.index < u) (sym c.self.invariant.ancestry.columns) (subst (λ (u : Schema). IsEntityOf u c.args.other) (sym c.self.view_is) c.requires.other)

pub returns : goal.returns
returns c =
    let la : IsEntityOf (schema_of c.self.inside) c.args.entity = subst (λ (u : Schema). IsEntityOf u c.args.entity) (sym c.self.view_is) c.requires.entity in
    let lb : IsEntityOf (schema_of c.self.inside) c.args.other = subst (λ (u : Schema). IsEntityOf u c.args.other) (sym c.self.view_is) c.requires.other in
    let row = c.self.invariant.ancestry.holds c.args.entity.index c.args.other.index la lb in
    rw (← c.self.view_is) (λ r. row.0 (c.has.ensures.0 r), λ i. c.has.ensures.1 (row.1 i))
