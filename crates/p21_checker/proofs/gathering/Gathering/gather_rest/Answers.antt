use Rattle.std.proofs.Common.{◌≢◌, ◌⊎◌, ◌∷◌, ◌++◌, [], map, inl, inr, sym, ap, subst, ◌∙◌, append_assoc, append-nil}
use Rattle.std.specs.Vec.Iter.{into_iter_items}
use Rattle.std.proofs.lemmas.List.{nil_from_length}
use Rattle.p21_checker.specs.Begin.{BeginWithFault, HasFault}
use Rattle.p21_checker.specs.Checked.{value_of}
use Rattle.p21_checker.specs.Gathering.{HasGathered}
use Rattle.p21_checker.proofs.gathering.Gathering.gather_rest.Goals as goal

pub loop-one-preserved : goal.loop-one-preserved
loop-one-preserved c = λ vs ls first h.
    let before = c.loop-one.invariant vs ls first h in
    let one = c.in-Some.one in
    let left = into_iter_items c.next.new.self in
    let step = c.in-Some.ensures.cases.0 in
    let fault : c.loop-one.self.faults.items ≢ [] ⊎ HasFault one = elim before.3 [ inl some ↦ inl some | inr begin ↦ inr (subst BeginWithFault step begin) ] in
    let gathered = c.in_ok-gather_one.ensures before.0 ls fault before.2 in (
      before.0 ++ value_of one ∷ [],
      append_assoc before.0 (value_of one ∷ []) (map value_of left) ∙ (ap (λ l. before.0 ++ map value_of l) (sym step) ∙ before.1),
      gathered.0,
      inl gathered.1,
    )

pub returns : goal.returns
returns c = λ vs ls first h.
    let before = c.loop-one.invariant vs ls first h in
    let left = c.loop-one.left in
    let none = nil_from_length (into_iter_items left) (sym left.rest.ok.0 ∙ c.in_default.ensures.cases.0) in
    let all = sym (append-nil before.0) ∙ (ap (λ l. before.0 ++ map value_of l) (sym none) ∙ before.1) in
    subst (λ l. HasGathered c.loop-one.self l ls) all before.2
