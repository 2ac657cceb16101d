use Rattle.std.proofs.Common.{subst}
use Rattle.p21_schema.specs.Declaration.{IsResolvedForm}
use Rattle.p21_schema.specs.declared.declarations.Form.{Form as CodedForm}
use Rattle.p21_tree.specs.Plain.{plain}
use Rattle.p21_rules.proofs.DeclarationLemmas.{explicit_form}
use Rattle.p21_rules.proofs.SlotLemmas.{pushed_by}
use Rattle.p21_rules.proofs.PushLemmas.{on_ok}
use Rattle.p21_rules.proofs.slots.push_by.Goals as goal

pub elements_of-requires : goal.elements_of-requires
elements_of-requires c =
    let r = c.requires.form in
    let e = explicit_form c.args.schema.now _ _ r.0 (subst (λ (x : CodedForm). IsResolvedForm c.args.schema.now x r.0) c.in-Explicit.is r.1) in
    (e.0, e.2)

pub push_value-requires-clause-elements : goal.push_value-requires-clause-elements
push_value-requires-clause-elements c =
    let r = c.requires.form in
    let e = explicit_form c.args.schema.now _ _ r.0 (subst (λ (x : CodedForm). IsResolvedForm c.args.schema.now x r.0) c.in-Explicit.is r.1) in
    (e.0, c.elements_of.ensures e.0 e.2)

pub returns-in-Explicit : goal.returns-in-Explicit
returns-in-Explicit c = λ f h.
    let e = explicit_form c.args.schema.now _ _ f (subst (λ (x : CodedForm). IsResolvedForm c.args.schema.now x f) c.in-Explicit.is h) in
    on_ok c.push_value.result (λ done. pushed_by c.args.schema.now f _ e.0 (plain c.args.param.now) _ _ done e.1) (c.push_value.ensures e.0 (c.elements_of.ensures e.0 e.2))
