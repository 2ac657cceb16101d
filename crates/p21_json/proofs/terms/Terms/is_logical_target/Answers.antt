use Rattle.std.proofs.Common.{◌<◌, ◌∙◌, ℕ, ap, get_or, length, sym, subst, arith}
use Rattle.p21_express.specs.Schema.{Schema, named}
use Rattle.p21_express.specs.WellFormed.{IsWellFormed}
use Rattle.p21_json.specs.Logical.{TakesLogical}
use Rattle.p21_json.specs.Terms.{IsTarget}
use Rattle.p21_json.proofs.ExprLemmas.{entity_is_not, type_at}
use Rattle.p21_json.proofs.FlagLemmas.{flag_says}
use Rattle.p21_json.proofs.terms.Terms.is_logical_target.Goals as goal

pub index-requires : goal.index-requires
index-requires c =
    let s = c.self.inside.schema.now in
    let at = type_at s c.args.target c.in-Defined.id c.requires.0 (subst (λ (x : Schema). IsTarget x c.args.target c.requires.0) (sym c.self.view_is) c.requires.1) c.in-Defined.is in
    let below : c.in-Defined.id.index < length s.types = at.0 in
    let count = c.self.invariant.logical.count in
    omega (arith, c.self.inside.logical.ok.0)

pub returns-in-Entity : goal.returns-in-Entity
returns-in-Entity c = λ n k. entity_is_not c.args.self.now c.args.target c.in-Entity.field-0 n (subst IsWellFormed c.self.view_is c.fits.ensures) k c.in-Entity.is

pub returns-in-Defined : goal.returns-in-Defined
returns-in-Defined c = λ n k.
    let s = c.self.inside.schema.now in
    let at = type_at s c.args.target c.in-Defined.id n (subst (λ (x : Schema). IsTarget x c.args.target n) (sym c.self.view_is) k) c.in-Defined.is in
    let says = flag_says s c.self.inside.logical.items c.in-Defined.id.index n c.index.result.now c.self.invariant.logical at.0 at.1 (c.index.ensures ∙ ap (λ (i : ℕ). get_or c.self.inside.logical.items i c.index.result.now) c.place.ensures) in
    (λ f. subst (λ (x : Schema). TakesLogical x (named n)) c.self.view_is (says.0 f), λ f. says.1 (subst (λ (x : Schema). TakesLogical x (named n)) (sym c.self.view_is) f))
