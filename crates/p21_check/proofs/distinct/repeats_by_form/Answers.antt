use Rattle.std.proofs.Common.{sym, subst}
use Rattle.std.proofs.lemmas.Bool.{false≢true}
use Rattle.p21_tree.specs.Plain.{plain}
use Rattle.p21_schema.specs.declared.declarations.Form.{Form as Coded}
use Rattle.p21_schema.specs.Declaration.{IsResolvedForm}
use Rattle.p21_check.specs.Repeats.{RepeatsByForm}
use Rattle.p21_check.proofs.Tests.{both}
use Rattle.p21_check.proofs.SlotLemmas.{derived_form, explicit_form}
use Rattle.p21_check.proofs.distinct.repeats_by_form.Goals as goal

pub returns-in-Derived : goal.returns-in-Derived
returns-in-Derived c = λ f is.
    let e = derived_form c.args.schema.now f (subst (λ (g : Coded). IsResolvedForm c.args.schema.now g f) c.in-Derived.is is) in
    (λ t. absurd (false≢true t), λ h. absurd (subst (RepeatsByForm c.args.schema.now (plain c.args.param.now)) e h))

pub lists_of-requires : goal.lists_of-requires
lists_of-requires c =
    let f = c.requires.form in
    let x = explicit_form c.args.schema.now c.in-Explicit.optional c.in-Explicit.texpr f.0 (subst (λ (g : Coded). IsResolvedForm c.args.schema.now g f.0) c.in-Explicit.is f.1) in
    (x.0, x.2)

pub repeats-requires : goal.repeats-requires
repeats-requires c =
    let f = c.requires.form in
    let x = explicit_form c.args.schema.now c.in-Explicit.optional c.in-Explicit.texpr f.0 (subst (λ (g : Coded). IsResolvedForm c.args.schema.now g f.0) c.in-Explicit.is f.1) in
    (c.lists_of.ensures x.0 x.2).known

pub returns-in-Explicit : goal.returns-in-Explicit
returns-in-Explicit c = λ f is.
    let s = c.args.schema.now in
    let t = plain c.args.param.now in
    let x = explicit_form s c.in-Explicit.optional c.in-Explicit.texpr f (subst (λ (g : Coded). IsResolvedForm s g f) c.in-Explicit.is is) in
    let a = (c.lists_of.ensures x.0 x.2).same t in
    let one = both c.repeats.ensures ((λ h. a.1 h), (λ h. a.0 h)) in
    (λ h. subst (RepeatsByForm s t) (sym x.1) (one.0 h), λ h. one.1 (subst (RepeatsByForm s t) x.1 h))
