use Rattle.std.proofs.Common.{◌<◌, sym, subst}
use Rattle.p21_express.specs.Schema.{Schema}
use Rattle.p21_schema.specs.Tables.{schema_of}
use Rattle.p21_schema.specs.Place.{IsEntityOf, IsTypeOf}
use Rattle.p21_schema.proofs.SelectLemmas.{entity_reached}
use Rattle.p21_schema.proofs.schema.Schema.select_reaches.Goals as goal

pub has-requires-clause-row : goal.has-requires-clause-row
has-requires-clause-row c = subst (λ u. c.args.select.index < u) (sym c.self.invariant.selects.entities.rows) (subst (λ (u : Schema). IsTypeOf u c.args.select) (sym c.self.view_is) c.requires.select)

pub has-requires-clause-column : goal.has-requires-clause-column
has-requires-clause-column c = subst (λ u. c.args.entity.index < u) (sym c.self.invariant.selects.entities.columns) (subst (λ (u : Schema). IsEntityOf u c.args.entity) (sym c.self.view_is) c.requires.entity)

pub returns : goal.returns
returns c =
    let s = schema_of c.self.inside in
    let li : IsTypeOf s c.args.select = subst (λ (u : Schema). IsTypeOf u c.args.select) (sym c.self.view_is) c.requires.select in
    let le : IsEntityOf s c.args.entity = subst (λ (u : Schema). IsEntityOf u c.args.entity) (sym c.self.view_is) c.requires.entity in
    let h = entity_reached s c.self.inside.selects.entities c.args.select.index c.args.entity.index c.self.invariant.selects.entities li le in
    rw (← c.self.view_is) (λ r. h.0 (c.has.ensures.0 r), λ m. c.has.ensures.1 (h.1 m))
