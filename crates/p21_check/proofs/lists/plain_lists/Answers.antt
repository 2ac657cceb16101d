use Rattle.std.proofs.Common.{inl, inr, sym, ap, ◌∙◌}
use Rattle.p21_express.specs.Schema.{array, list, set, bag}
use Rattle.p21_check.specs.Wanted.{by_names}
use Rattle.p21_check.proofs.ExprLemmas.{array_names, list_names, set_names, bag_names, plain_word}
use Rattle.p21_check.proofs.RepeatsLemmas.{by_word}
use Rattle.p21_check.proofs.ListsLemmas.{aggregate_lists, no_lists}
use Rattle.p21_check.proofs.lists.plain_lists.Goals as goal

pub returns-in-Array : goal.returns-in-Array
returns-in-Array c s x e no_name =
    let v = c.in-Array.item.value in
    elim c.in-Array.is [
      | inl h ↦ aggregate_lists s x (array h.0 h.1) c.deref-in-Array.result v c.deref-in-Array.ensures (sym (array_names s h.0 h.1 c.in-Array.item) ∙ ap (by_names s) (sym h.2) ∙ e)
      | inr h ↦ aggregate_lists s x (bag h.0) c.deref-in-Array.result v c.deref-in-Array.ensures (sym (bag_names s h.0 c.in-Array.item) ∙ ap (by_names s) (sym h.1) ∙ e)
    ]

pub returns-in-List : goal.returns-in-List
returns-in-List c s x e no_name =
    let l = c.in-List in
    aggregate_lists s x (list l.bounds l.unique) c.deref.result l.item.value c.deref.ensures (sym (list_names s l.bounds l.unique l.item) ∙ ap (by_names s) (sym l.is) ∙ e)

pub returns-in-Set : goal.returns-in-Set
returns-in-Set c s x e no_name =
    let l = c.in-Set in
    aggregate_lists s x (set l.bounds) c.deref-in-Set.result l.item.value c.deref-in-Set.ensures (sym (set_names s l.bounds l.item) ∙ ap (by_names s) (sym l.is) ∙ e)

pub returns-in_default : goal.returns-in_default
returns-in_default c s x e no_name =
    let n = c.in_default in
    no_lists s x (λ p. by_word (plain_word s c.args.texpr.now x n.not-Array n.not-List n.not-Set n.not-Bag no_name e))
