use Rattle.std.proofs.Common.{◌≡◌, ◌∙◌, ap, sym, subst, map, IfOk}
use Rattle.p21_values.specs.Elements.{with_element, with_index}
use Rattle.p21_values.specs.Plain.{Val, plain, several}
use Rattle.p21_values.specs.Sets.{vals}
use Rattle.p21_values.proofs.SameLemmas.{aggregate_is, listed_all}
use Rattle.p21_values.proofs.elements.with_bare.Goals as goal

pub returns-in-Aggregate : goal.returns-in-Aggregate
returns-in-Aggregate c =
    let a = c.in-Aggregate in
    let at = plain c.args.at.now in
    let element = plain c.args.element.now in
    let xs = c.deref-in-Aggregate.result.now in
    let is = aggregate_is c.args.aggregate.now a.kind a.values c.deref.result.now xs a.is c.deref.ensures c.deref-in-Aggregate.ensures.value in
    let e = ap (λ (p : Val). with_element p at element) is ∙ ap (λ ys. several a.kind (vals (with_index a.kind ys at element))) (listed_all xs) in
    subst (λ (x : Val). IfOk c.with_index.result (λ v. plain v ≡ x)) (sym e) c.with_index.ensures
