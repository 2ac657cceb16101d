use Rattle.std.proofs.Common.{◌≡◌, ◌⊎◌, List, ℕ, sym, subst}
use Rattle.std.proofs.lemmas.Bool.{false≢true}
use Rattle.p21_express.specs.WellFormed.{IsAncestor}
use Rattle.p21_schema.specs.Declaration.{IsResolvedForm}
use Rattle.p21_schema.specs.Place.{entity_name}
use Rattle.p21_schema.specs.declared.declarations.Form.{Form as CodedForm}
use Rattle.p21_rule_text.proofs.FormLemmas.{derived_form, explicit_form}
use Rattle.p21_rule_text.proofs.redeclared.derives_above.Goals as goal

pub returns-in-Derived : goal.returns-in-Derived
returns-in-Derived c = λ d r.
    let s = c.args.schema.now in
    let n = entity_name s c.args.entity in
    let f = derived_form s d.form (subst (λ (x : CodedForm). IsResolvedForm s x d.form) c.in-Derived.is r.form) in
    (λ t. (f, subst (λ (m : List ℕ). (n ≡ m) ⊎ IsAncestor s n m) r.entity (c.is_a.ensures.0 t)), λ h. c.is_a.ensures.1 (subst (λ (m : List ℕ). (n ≡ m) ⊎ IsAncestor s n m) (sym r.entity) h.1))

pub returns-in-Explicit : goal.returns-in-Explicit
returns-in-Explicit c = λ d r. (λ t. absurd (false≢true t), λ h. absurd (explicit_form c.args.schema.now _ _ d.form (subst (λ (x : CodedForm). IsResolvedForm c.args.schema.now x d.form) c.in-Explicit.is r.form) h.0))
