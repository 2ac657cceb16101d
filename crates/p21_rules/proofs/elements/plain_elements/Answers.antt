use Rattle.std.proofs.Common.{inl, inr, refl, sym, ap, ◌∙◌}
use Rattle.p21_express.specs.Schema.{array, list, set, bag}
use Rattle.p21_check.specs.Wanted.{by_names}
use Rattle.p21_rules.proofs.ExprLemmas.{array_names, list_names, set_names, bag_names, plain_word}
use Rattle.p21_rules.proofs.ElementsLemmas.{aggregate_elements, word_elements}
use Rattle.p21_rules.proofs.elements.plain_elements.Goals as goal

pub returns-in-Array : goal.returns-in-Array
returns-in-Array c s x e no_name =
    let v = c.in-Array.item.value in
    elim c.in-Array.is [
      | inl h ↦ aggregate_elements s x (array h.0 h.1) _ v c.deref-in-Array.ensures refl (sym (array_names s h.0 h.1 c.in-Array.item) ∙ ap (by_names s) (sym h.2) ∙ e)
      | inr h ↦ aggregate_elements s x (list h.0 h.1) _ v c.deref-in-Array.ensures refl (sym (list_names s h.0 h.1 c.in-Array.item) ∙ ap (by_names s) (sym h.2) ∙ e)
    ]

pub returns-in-Set : goal.returns-in-Set
returns-in-Set c s x e no_name =
    let v = c.in-Set.item.value in
    elim c.in-Set.is [
      | inl h ↦ aggregate_elements s x (set h.0) _ v c.deref.ensures refl (sym (set_names s h.0 c.in-Set.item) ∙ ap (by_names s) (sym h.1) ∙ e)
      | inr h ↦ aggregate_elements s x (bag h.0) _ v c.deref.ensures refl (sym (bag_names s h.0 c.in-Set.item) ∙ ap (by_names s) (sym h.1) ∙ e)
    ]

pub returns-in_default : goal.returns-in_default
returns-in_default c s x e no_name = let n = c.in_default in word_elements s x (plain_word s c.args.texpr.now x n.not-Array n.not-List n.not-Set n.not-Bag no_name e)
