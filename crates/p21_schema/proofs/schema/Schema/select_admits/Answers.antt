use Rattle.std.proofs.Common.{◌<◌, sym, subst}
use Rattle.p21_express.specs.Schema.{Schema}
use Rattle.p21_schema.specs.Tables.{schema_of}
use Rattle.p21_schema.specs.Place.{IsEntityOf, IsTypeOf}
use Rattle.p21_schema.proofs.AdmitLemmas.{admits}
use Rattle.p21_schema.proofs.schema.Schema.select_admits.Goals as goal

pub meets-requires-clause-row : goal.meets-requires-clause-row
meets-requires-clause-row c = subst (λ u. c.args.select.index < u) (sym c.self.invariant.selects.entities.rows) (subst (λ (u : Schema). IsTypeOf u c.args.select) (sym c.self.view_is) c.requires.select)

pub meets-requires-clause-other_row : goal.meets-requires-clause-other_row
meets-requires-clause-other_row c = subst (λ u. c.args.entity.index < u) (sym c.self.invariant.ancestry.rows) (subst (λ (u : Schema). IsEntityOf u c.args.entity) (sym c.self.view_is) c.requires.entity)

pub returns : goal.returns
returns c =
    let s = schema_of c.self.inside in
    let li : IsTypeOf s c.args.select = subst (λ (u : Schema). IsTypeOf u c.args.select) (sym c.self.view_is) c.requires.select in
    let le : IsEntityOf s c.args.entity = subst (λ (u : Schema). IsEntityOf u c.args.entity) (sym c.self.view_is) c.requires.entity in
    let h = admits s c.self.invariant.well_formed c.self.inside.selects.entities c.self.invariant.selects.entities c.self.inside.ancestry c.self.invariant.ancestry c.args.select.index c.args.entity.index li le in
    rw (← c.self.view_is) (λ r. h.0 (c.meets.ensures.0 r), λ m. c.meets.ensures.1 (h.1 m))
