use Rattle.std.proofs.Common.{◌≡◌, ◌<◌, length, get_or, sym, subst, ◌∙◌}
use Rattle.std.proofs.lemmas.List.{get_or_default}
use Rattle.p21_express.specs.Schema.{Schema}
use Rattle.p21_schema.specs.Tables.{schema_of}
use Rattle.p21_schema.specs.Place.{IsTypeOf}
use Rattle.p21_schema.proofs.UnderLemmas.{stands_at, end_below}
use Rattle.p21_schema.proofs.schema.Schema.under.Goals as goal

pub index-requires-2 : goal.index-requires-2
index-requires-2 c =
    let s = schema_of c.self.inside in
    let t = c.args.id in
    let lt : IsTypeOf s t = subst (λ (u : Schema). IsTypeOf u t) (sym c.self.view_is) c.requires in
    let ends = c.self.inside.ends.items in
    let less : t.index < length ends = subst (λ u. t.index < u) (sym c.self.invariant.ends.count) lt in
    let at : get_or ends t.index 0 ≡ c.index.result.now = get_or_default ends t.index 0 c.index.result.now less ∙ sym c.index.ensures in
    subst (λ u. c.index.result.now < u) (sym c.self.invariant.resolved.count ∙ sym c.self.inside.unders.ok.0) (end_below s ends t c.index.result.now lt c.self.invariant.ends at)

pub returns : goal.returns
returns c =
    let s = schema_of c.self.inside in
    let t = c.args.id in
    let lt : IsTypeOf s t = subst (λ (u : Schema). IsTypeOf u t) (sym c.self.view_is) c.requires in
    let ends = c.self.inside.ends.items in
    let less : t.index < length ends = subst (λ u. t.index < u) (sym c.self.invariant.ends.count) lt in
    let at : get_or ends t.index 0 ≡ c.index.result.now = get_or_default ends t.index 0 c.index.result.now less ∙ sym c.index.ensures in
    rw (← c.self.view_is) (stands_at s ends c.self.inside.unders.items t c.index.result.now c.index-2.result.now lt c.self.invariant.ends c.self.invariant.resolved at (sym c.index-2.ensures))
