use Rattle.std.proofs.Common.{sym, ap, subst, ◌∙◌}
use Rattle.std.proofs.lemmas.Bool.{false≢true}
use Rattle.p21_schema.specs.Declaration.{IsResolvedForm, is_explicit}
use Rattle.p21_schema.specs.Place.{entity_name}
use Rattle.p21_schema.specs.declared.declarations.Form.{Form as CodedForm}
use Rattle.p21_rule_text.proofs.FormLemmas.{derived_form, explicit_is}
use Rattle.p21_rule_text.proofs.IdLemmas.{same_id}
use Rattle.p21_rule_text.proofs.redeclared.is_explicit_by.Goals as goal

pub returns-in-Explicit : goal.returns-in-Explicit
returns-in-Explicit c = λ d r.
    let s = c.args.schema.now in
    let here = c.args.declaration.now.entity in
    let same = same_id c.eq.result here c.args.entity c.eq.ensures in
    let explicit = explicit_is s _ _ d.form (subst (λ (x : CodedForm). IsResolvedForm s x d.form) c.in-Explicit.is r.form) in
    (λ t. (sym r.entity ∙ ap (entity_name s) (same.0 t), explicit), λ h. same.1 (c.one_id.ensures.entities here c.args.entity r.known c.requires.entity (r.entity ∙ h.0)))

pub returns-in-Derived : goal.returns-in-Derived
returns-in-Derived c = λ d r.
    let s = c.args.schema.now in
    let derived = derived_form s d.form (subst (λ (x : CodedForm). IsResolvedForm s x d.form) c.in-Derived.is r.form) in
    (λ t. absurd (false≢true t), λ h. absurd (false≢true (sym (ap is_explicit derived) ∙ h.1)))
