use Rattle.std.proofs.Common.{◌≡◌, ⊎_elim, inl, inr, List, true, refl, sym, ap, subst, ◌∙◌}
use Rattle.std.proofs.lemmas.Bool.{false≢true}
use Rattle.p21_tree.specs.Tree as tree
use Rattle.p21_tree.specs.Plain.{plain, plain_all}
use Rattle.p21_tree.specs.declared.params.Param.{Param}
use Rattle.p21_check.specs.Lists.{RepeatsAmongBy, is_unique}
use Rattle.p21_check.specs.RepeatedNames.{names_of}
use Rattle.p21_check.specs.Repeats.{HasTwice}
use Rattle.p21_check.proofs.PlainLemmas.{plain_items}
use Rattle.p21_check.proofs.ListsLemmas.{by_elements, found_here, found_further, found_nowhere, nowhere_among}
use Rattle.p21_check.proofs.repeats.+repeats.Goals as goal

pub returns-then-repeats_here : goal.returns-then-repeats_here
returns-then-repeats_here t c =
    let is : plain c.args.param.now ≡ tree.items (plain_all c.deref.result.now) = plain_items c.in-Items.elements c.in-Items.is ∙ ap (λ (l : List Param). tree.items (plain_all l)) (sym c.deref.ensures.value) in
    let all = by_elements c.args.schema.now c.args.lists c.of_elements-inner.result (plain c.args.param.now) c.deref.result.now is c.of_elements-inner.ensures in
    (λ _. all.1 (inl (c.repeats_here.ensures.0 c.if-repeats_here.true)), λ _. refl)

pub returns-then-is_nowhere : goal.returns-then-is_nowhere
returns-then-is_nowhere t c =
    let is : plain c.args.param.now ≡ tree.items (plain_all c.deref.result.now) = plain_items c.in-Items.elements c.in-Items.is ∙ ap (λ (l : List Param). tree.items (plain_all l)) (sym c.deref.ensures.value) in
    let all = by_elements c.args.schema.now c.args.lists c.of_elements-inner.result (plain c.args.param.now) c.deref.result.now is c.of_elements-inner.ensures in (
      λ h. absurd (false≢true h),
      λ h. ⊎_elim
          (λ (x : (is_unique c.args.lists ≡ true) × HasTwice (names_of c.deref.result.now)). absurd (false≢true (sym c.if-repeats_here.false ∙ c.repeats_here.ensures.1 x)))
          (λ (x : RepeatsAmongBy c.args.schema.now c.of_elements-inner.result (plain_all c.deref.result.now)). absurd (nowhere_among (c.is_nowhere.ensures.0 c.if-is_nowhere.true) x))
          (all.0 h),
    )

pub returns-then-repeats : goal.returns-then-repeats
returns-then-repeats t c =
    let s = c.args.schema.now in
    let l = c.of_elements-inner.result in
    let ps = c.deref-element-items.result.now in
    let is : plain c.args.param.now ≡ tree.items (plain_all ps) = plain_items c.in-Items.elements c.in-Items.is ∙ ap (λ (l : List Param). tree.items (plain_all l)) (sym c.deref-element-items.ensures.value) in
    let all = by_elements s c.args.lists l (plain c.args.param.now) ps is c.of_elements-inner.ensures in
    (λ _. all.1 (inr (found_here s l ps c.loop-element.element-index c.element-item.result c.loop-element-test.true c.element-item.is (c.repeats.ensures.0 c.if-repeats.true) c.loop-element.invariant)), λ _. refl)

pub loop-element-preserved : goal.loop-element-preserved
loop-element-preserved t c =
    found_further c.args.schema.now c.of_elements-inner.result c.deref-element-items.result.now c.loop-element.element-index c.element-item.result c.loop-element-test.true c.element-item.is
    (λ h. false≢true (sym c.if-repeats.false ∙ c.repeats.ensures.1 h)) c.loop-element.invariant

pub returns-after-loop-element : goal.returns-after-loop-element
returns-after-loop-element t c =
    let s = c.args.schema.now in
    let l = c.of_elements-inner.result in
    let ps = c.deref-element-items.result.now in
    let is : plain c.args.param.now ≡ tree.items (plain_all ps) = plain_items c.in-Items.elements c.in-Items.is ∙ ap (λ (l : List Param). tree.items (plain_all l)) (sym c.deref-element-items.ensures.value) in
    let all = by_elements s c.args.lists l (plain c.args.param.now) ps is c.of_elements-inner.ensures in
    let same : c.deref.result.now ≡ ps = c.deref.ensures.value ∙ sym c.deref-element-items.ensures.value in (
      λ h. absurd (false≢true h),
      λ h. ⊎_elim
          (λ (x : (is_unique c.args.lists ≡ true) × HasTwice (names_of ps)). absurd (false≢true (sym c.if-repeats_here.false ∙ c.repeats_here.ensures.1 (x.0, subst (λ (qs : List Param). HasTwice (names_of qs)) (sym same) x.1))))
          (λ (x : RepeatsAmongBy s l (plain_all ps)). absurd (found_nowhere s l ps c.loop-element.element-index c.loop-element-test.false c.loop-element.invariant x))
          (all.0 h),
    )
