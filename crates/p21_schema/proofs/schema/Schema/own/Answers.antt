use Rattle.std.proofs.Common.{◌≡◌, ◌<◌, ◌+◌, length, get_or, refl, sym, subst, ◌∙◌}
use Rattle.std.proofs.lemmas.List.{get_or_default}
use Rattle.p21_express.specs.Schema.{Schema}
use Rattle.p21_schema.specs.Tables.{schema_of}
use Rattle.p21_schema.specs.Place.{IsEntityOf, entity_at}
use Rattle.p21_schema.specs.Row.{own_attributes}
use Rattle.p21_schema.specs.RowTable.{no_own}
use Rattle.p21_schema.proofs.RowLemmas.{own_known, own_item}
use Rattle.p21_schema.proofs.schema.Schema.own.Goals as goal

pub returns-clause-known : goal.returns-clause-known
returns-clause-known c =
    let s = schema_of c.self.inside in
    let e = c.args.entity in
    let le : IsEntityOf s e = subst (λ (u : Schema). IsEntityOf u e) (sym c.self.view_is) c.requires.entity in
    let t = c.self.inside.own in
    let own = c.index-own.result.now in
    let less : e.index < length t.items = subst (λ u. e.index < u) (sym c.self.invariant.own.count) le in
    let is : get_or t.items e.index no_own ≡ own = get_or_default t.items e.index no_own own less ∙ sym c.index-own.ensures in
    let there : c.args.position < length (own_attributes (entity_at s e)) = subst (λ (u : Schema). c.args.position < length (own_attributes (entity_at u e))) (sym c.self.view_is) c.requires.position in
    rw (← c.self.view_is) (own_known s t.items e own c.self.invariant.own le is (own.from + c.args.position) c.args.position there refl)

pub returns-clause-own : goal.returns-clause-own
returns-clause-own c =
    let s = schema_of c.self.inside in
    let e = c.args.entity in
    let le : IsEntityOf s e = subst (λ (u : Schema). IsEntityOf u e) (sym c.self.view_is) c.requires.entity in
    let t = c.self.inside.own in
    let own = c.index-own.result.now in
    let less : e.index < length t.items = subst (λ u. e.index < u) (sym c.self.invariant.own.count) le in
    let is : get_or t.items e.index no_own ≡ own = get_or_default t.items e.index no_own own less ∙ sym c.index-own.ensures in
    let there : c.args.position < length (own_attributes (entity_at s e)) = subst (λ (u : Schema). c.args.position < length (own_attributes (entity_at u e))) (sym c.self.view_is) c.requires.position in
    rw (← c.self.view_is) (own_item s t.items e own c.self.invariant.own le is (own.from + c.args.position) c.args.position there refl)
