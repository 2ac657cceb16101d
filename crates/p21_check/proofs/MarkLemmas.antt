-- Marks of entities in a table.
use Rattle.std.proofs.Common.{◌≡◌, ⊎_elim, inl, inr, ℕ, ◌+◌, ◌<◌, Bool, List, [], ◌∷◌, length, get_or, take, subst}
use Rattle.std.proofs.lemmas.List.{take_more}
use Rattle.p21_express.specs.WellFormed.{IsIn}
use Rattle.p21_schema.specs.declared.ids.EntityId.{EntityId}
use Rattle.p21_check.specs.Marks.{AreAdded, IsMarked}
use Rattle.p21_check.proofs.AnyLemmas.{in_both}

pub in_one : {X : Type 0} {x y : X} → IsIn (x ∷ []) y → x ≡ y
in_one (inl e) = e
in_one (inr h) = absurd h

-- one entity more
pub added_more : (old marks new : List Bool) (ids : List EntityId) (i : ℕ) (d : EntityId) → i < length ids → length new ≡ length marks → AreAdded old marks (take i ids) → AreAdded marks new (get_or ids i d ∷ []) → AreAdded old new (take (i + 1) ids)
added_more old marks new ids i d less long so_far next e l =
    let before = so_far e (subst (λ (n : ℕ). e.index < n) long l) in
    let now = next e l in
    let one = get_or ids i d ∷ [] in
    let parts = in_both (take i ids) one e in
    rw (take_more ids i d less) (
      λ h. ⊎_elim
          (λ (k : IsIn one e). inl (parts.1 (inr k)))
          (λ (m : IsMarked marks e). ⊎_elim (λ (k : IsIn (take i ids) e). inl (parts.1 (inl k))) (λ (o : IsMarked old e). inr o) (before.0 m))
          (now.0 h),
      λ h. now.1 (⊎_elim
          (λ k. ⊎_elim (λ (f : IsIn (take i ids) e). inr (before.1 (inl f))) (λ (f : IsIn one e). inl f) (parts.0 k))
          (λ (o : IsMarked old e). inr (before.1 (inr o))) h),
    )
