use Rattle.std.proofs.Common.{sym, subst}
use Rattle.std.proofs.lemmas.Bool.{false≢true}
use Rattle.p21_rules.proofs.DeclarationLemmas.{derived_form, explicit_form}
use Rattle.p21_schema.specs.Declaration.{IsResolvedForm}
use Rattle.p21_schema.specs.declared.declarations.Form.{Form as CodedForm}
use Rattle.p21_rules.specs.Slots.{set_of}
use Rattle.p21_rules.proofs.slots.is_derived_by.Goals as goal

pub returns-in-Derived : goal.returns-in-Derived
returns-in-Derived c = λ d r.
    let f = derived_form c.args.slot.schema.now d.form (subst (λ (x : CodedForm). IsResolvedForm c.args.slot.schema.now x d.form) c.in-Derived.is r.form) in
    (λ t. (subst (set_of c.args.slot) r.entity (c.is_in_set.ensures.0 t), f), λ h. c.is_in_set.ensures.1 (subst (set_of c.args.slot) (sym r.entity) h.0))

pub returns-in-Explicit : goal.returns-in-Explicit
returns-in-Explicit c = λ d r.
    let f = explicit_form c.args.slot.schema.now _ _ d.form (subst (λ (x : CodedForm). IsResolvedForm c.args.slot.schema.now x d.form) c.in-Explicit.is r.form) in
    (λ t. absurd (false≢true t), λ h. absurd (cc))
