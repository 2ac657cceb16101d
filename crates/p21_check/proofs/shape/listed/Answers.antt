use Rattle.std.proofs.Common.{refl, sym, ap, ◌∙◌}
use Rattle.p21_express.specs.Schema.{array, list, set, bag}
use Rattle.p21_check.specs.Wanted.{by_names}
use Rattle.p21_check.proofs.ExprLemmas.{array_names, list_names, set_names, bag_names}
use Rattle.p21_check.proofs.ShapeLemmas.{takes_aggregate}
use Rattle.p21_check.proofs.shape.listed.Goals as goal

pub returns-in-Array : goal.returns-in-Array
returns-in-Array c s e h =
    takes_aggregate s e (array c.in-Array.bounds c.in-Array.optional) c.in-Array.item.value _ (sym (array_names s c.in-Array.bounds c.in-Array.optional c.in-Array.item) ∙ ap (by_names s) (sym c.in-Array.is) ∙ h) c.deref.ensures (λ n k. k) refl

pub returns-in-List : goal.returns-in-List
returns-in-List c s e h =
    takes_aggregate s e (list c.in-List.bounds c.in-List.unique) c.in-List.item.value _ (sym (list_names s c.in-List.bounds c.in-List.unique c.in-List.item) ∙ ap (by_names s) (sym c.in-List.is) ∙ h) c.deref-in-List.ensures (λ n k. k) refl

pub returns-in-Set : goal.returns-in-Set
returns-in-Set c s e h = takes_aggregate s e (set c.in-Set.bounds) c.in-Set.item.value _ (sym (set_names s c.in-Set.bounds c.in-Set.item) ∙ ap (by_names s) (sym c.in-Set.is) ∙ h) c.deref-in-Set.ensures (λ n k. k) refl

pub returns-in-Bag : goal.returns-in-Bag
returns-in-Bag c s e h = takes_aggregate s e (bag c.in-Bag.bounds) c.in-Bag.item.value _ (sym (bag_names s c.in-Bag.bounds c.in-Bag.item) ∙ ap (by_names s) (sym c.in-Bag.is) ∙ h) c.deref-in-Bag.ensures (λ n k. k) refl
