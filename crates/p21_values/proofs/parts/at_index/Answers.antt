use Rattle.std.proofs.Common.{◌≡◌, ◌∙◌, ap, IfOk, rules, subst, of_z, to_z, w64, SFits}
use Rattle.std.proofs.lemmas.Int.{to_z-of_z}
use Rattle.p21_values.specs.Parts.{at_index}
use Rattle.p21_values.specs.Plain.{plain}
use Rattle.p21_values.proofs.OperatorLemmas.{at_index_is}
use Rattle.p21_values.proofs.parts.at_index.Goals as goal

pub returns-in-Aggregate : goal.returns-in-Aggregate
returns-in-Aggregate c =
    let v = c.args.value.now in
    let f : SFits w64 c.first_index.result = search rules in
    let first = to_z-of_z w64 c.first_index.result f ∙ c.first_index.ensures in
    let e = at_index_is v c.in-Aggregate.kind c.in-Aggregate.values c.deref.result.now c.deref-in-Aggregate.result.now (to_z w64 (of_z w64 c.args.at)) (to_z w64 (of_z w64 c.first_index.result)) c.in-Aggregate.is c.deref.ensures c.deref-in-Aggregate.ensures.value first ∙ ap (at_index (plain v)) (to_z-of_z w64 c.args.at c.ranges.at) in
    subst (λ x. IfOk c.element_at.result (λ v. plain v ≡ x)) e c.element_at.ensures
