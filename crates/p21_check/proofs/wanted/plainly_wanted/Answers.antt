use Rattle.std.proofs.Common.{inl, inr, sym, ap, ◌∙◌}
use Rattle.p21_express.specs.Schema.{array, list, set, bag}
use Rattle.p21_check.specs.Wanted.{by_names}
use Rattle.p21_check.proofs.RefersLemmas.{by_word}
use Rattle.p21_check.proofs.ExprLemmas.{array_names, list_names, set_names, bag_names, asked_elements, asked_nothing, plain_word}
use Rattle.p21_check.proofs.wanted.plainly_wanted.Goals as goal

pub returns-in-Array : goal.returns-in-Array
returns-in-Array c s x e no_name =
    let v = c.in-Array.item.value in
    elim c.in-Array.is [
      | inl h ↦ asked_elements s x (array h.0 h.1) c.deref.result v c.deref.ensures (sym (array_names s h.0 h.1 c.in-Array.item) ∙ ap (by_names s) (sym h.2) ∙ e)
      | inr k ↦ elim k [
        | inl h ↦ asked_elements s x (list h.0 h.1) c.deref.result v c.deref.ensures (sym (list_names s h.0 h.1 c.in-Array.item) ∙ ap (by_names s) (sym h.2) ∙ e)
        | inr m ↦ elim m [
          | inl h ↦ asked_elements s x (set h.0) c.deref.result v c.deref.ensures (sym (set_names s h.0 c.in-Array.item) ∙ ap (by_names s) (sym h.1) ∙ e)
          | inr h ↦ asked_elements s x (bag h.0) c.deref.result v c.deref.ensures (sym (bag_names s h.0 c.in-Array.item) ∙ ap (by_names s) (sym h.1) ∙ e)
        ]
      ]
    ]

pub returns-in_default : goal.returns-in_default
returns-in_default c s x e no_name =
    let n = c.in_default in
    asked_nothing s x (λ p place r. by_word (plain_word s c.args.texpr.now x n.not-Array n.not-List n.not-Set n.not-Bag no_name e))
