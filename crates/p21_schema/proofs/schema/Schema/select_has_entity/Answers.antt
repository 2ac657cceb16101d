use Rattle.std.proofs.Common.{◌<◌, sym, subst}
use Rattle.p21_express.specs.Schema.{Schema}
use Rattle.p21_schema.specs.Tables.{schema_of}
use Rattle.p21_schema.specs.Place.{IsTypeOf}
use Rattle.p21_schema.proofs.SelectLemmas.{some_reached}
use Rattle.p21_schema.proofs.schema.Schema.select_has_entity.Goals as goal

pub holds_some-requires : goal.holds_some-requires
holds_some-requires c = subst (λ u. c.args.select.index < u) (sym c.self.invariant.selects.entities.rows) (subst (λ (u : Schema). IsTypeOf u c.args.select) (sym c.self.view_is) c.requires)

pub returns : goal.returns
returns c =
    let s = schema_of c.self.inside in
    let li : IsTypeOf s c.args.select = subst (λ (u : Schema). IsTypeOf u c.args.select) (sym c.self.view_is) c.requires in
    let h = some_reached s c.self.inside.selects.entities c.args.select.index c.self.invariant.selects.entities li in
    rw (← c.self.view_is) (λ r. h.0 (c.holds_some.ensures.0 r), λ m. c.holds_some.ensures.1 (h.1 m))
