use Rattle.std.proofs.Common.{◌≡◌, ◌⊎◌, Bool, List, ℕ, false, not, true, refl, sym, subst}
use Rattle.std.proofs.lemmas.Bool.{false≢true}
use Rattle.p21_express.specs.WellFormed.{IsAncestor}
use Rattle.p21_schema.specs.Declaration.{IsResolvedForm}
use Rattle.p21_schema.specs.Place.{entity_name}
use Rattle.p21_schema.specs.declared.declarations.Form.{Form as CodedForm}
use Rattle.p21_rule_text.proofs.FormLemmas.{derived_form, explicit_form}
use Rattle.p21_rule_text.proofs.redeclared.derives_elsewhere.Goals as goal

unless : (b : Bool) → (b ≡ true → ⊥) → not b ≡ true
unless true h = absurd (h refl)
unless false h = refl

other : (b : Bool) → not b ≡ true → b ≡ true → ⊥
other true n t = false≢true n
other false n t = false≢true t

pub returns-in-Derived : goal.returns-in-Derived
returns-in-Derived c = λ d r.
    let s = c.args.schema.now in
    let n = entity_name s c.args.entity in
    let f = derived_form s d.form (subst (λ (x : CodedForm). IsResolvedForm s x d.form) c.in-Derived.is r.form) in (
      λ t. (f, λ h. other c.is_a.result t (c.is_a.ensures.1 (subst (λ (m : List ℕ). (n ≡ m) ⊎ IsAncestor s n m) (sym r.entity) h))),
      λ h. unless c.is_a.result (λ t. h.1 (subst (λ (m : List ℕ). (n ≡ m) ⊎ IsAncestor s n m) r.entity (c.is_a.ensures.0 t))),
    )

pub returns-in-Explicit : goal.returns-in-Explicit
returns-in-Explicit c = λ d r. (λ t. absurd (false≢true t), λ h. absurd (explicit_form c.args.schema.now _ _ d.form (subst (λ (x : CodedForm). IsResolvedForm c.args.schema.now x d.form) c.in-Explicit.is r.form) h.0))
