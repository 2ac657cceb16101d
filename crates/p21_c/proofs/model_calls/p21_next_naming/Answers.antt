use Rattle.std.proofs.Common.{◌∙◌, List, Some, ap, subst, sym}
use Rattle.p21_tree.specs.declared.instances.RawInstance.{RawInstance}
use Rattle.p21_tree.specs.Views.{plain_instance}
use Rattle.p21_join.specs.Model.{instances_of}
use Rattle.p21_query.specs.First.{IsFirst}
use Rattle.p21_query.specs.Names.{AnyHasName}
use Rattle.p21_c.specs.declared.held.HeldModel.{HeldModel}
use Rattle.p21_c.proofs.ModelLemmas.{one_model}
use Rattle.p21_c.proofs.model_calls.p21_next_naming.Goals as goal

pub returns-clause-found : goal.returns-clause-found
returns-clause-found c = λ _ m e.
    let P = λ (i : RawInstance). AnyHasName c.args.name (plain_instance i).records in
    let same = one_model c.args.model.held m c.in-Some.held.now e c.in-Some.ensures in
    let all = c.instances.ensures ∙ ap (λ (h : HeldModel). instances_of h.model) (sym same) in
    subst (λ (xs : List RawInstance). IsFirst P (λ i. ¬ (P i)) xs c.args.from (Some c.in-Some-next_naming.found)) all c.in-Some-next_naming.ensures
