use Rattle.std.proofs.Common.{◌<◌, sym, subst, ◌∙◌}
use Rattle.std.proofs.lemmas.Bool.{false≢true}
use Rattle.p21_express.specs.Schema.{Schema}
use Rattle.p21_schema.specs.Tables.{schema_of}
use Rattle.p21_schema.specs.Place.{IsTypeOf}
use Rattle.p21_schema.proofs.SelectLemmas.{type_reached, type_not_reached, placed}
use Rattle.p21_schema.proofs.schema.Schema.select_has.Goals as goal

pub has-requires-clause-row : goal.has-requires-clause-row
has-requires-clause-row c = subst (λ u. c.args.select.index < u) (sym c.self.invariant.selects.types.rows) (subst (λ (u : Schema). IsTypeOf u c.args.select) (sym c.self.view_is) c.requires)

pub has-requires-clause-column : goal.has-requires-clause-column
has-requires-clause-column c =
    let s = schema_of c.self.inside in
    let k = c.in_ok-index.index in
    subst (λ u. k < u) (sym c.self.invariant.selects.types.columns) (placed s c.self.inside.type_names k c.args.name.now c.self.invariant.types c.in_ok-index.ensures).0

pub returns-then-has : goal.returns-then-has
returns-then-has c =
    let s = schema_of c.self.inside in
    let k = c.in_ok-index.index in
    let li : IsTypeOf s c.args.select = subst (λ (u : Schema). IsTypeOf u c.args.select) (sym c.self.view_is) c.requires in
    let p = placed s c.self.inside.type_names k c.args.name.now c.self.invariant.types c.in_ok-index.ensures in
    rw (← c.self.view_is) (p.0, (p.1, type_reached s c.self.inside.selects.types c.args.select.index k c.args.name.now c.self.invariant.selects.types li p.0 p.1 (c.has.ensures.0 c.if-has.true)))

pub returns-else-has : goal.returns-else-has
returns-else-has c =
    let s = schema_of c.self.inside in
    let k = c.in_ok-index.index in
    let li : IsTypeOf s c.args.select = subst (λ (u : Schema). IsTypeOf u c.args.select) (sym c.self.view_is) c.requires in
    let p = placed s c.self.inside.type_names k c.args.name.now c.self.invariant.types c.in_ok-index.ensures in
    rw (← c.self.view_is) (type_not_reached s c.self.inside.selects.types c.args.select.index k c.args.name.now c.self.invariant.selects.types li p.0 p.1 (λ m. false≢true (sym c.if-has.false ∙ c.has.ensures.1 m)))
