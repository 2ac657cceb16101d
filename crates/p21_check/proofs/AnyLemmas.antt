-- Whether some element of a list is such, one by one.
use Rattle.std.proofs.Common.{◌≡◌, ◌↔◌, ◌⊎◌, ⊎_elim, inl, inr, ℕ, zero, suc, ◌+◌, ◌<◌, ◌≤◌, List, [], ◌∷◌, ◌++◌, length, get_or, take, drop, refl, sym, ap, subst, arith}
use Rattle.std.specs.List.{AllZip}
use Rattle.std.proofs.lemmas.List.{drop_more, drop_all, take_more}
use Rattle.p21_express.specs.WellFormed.{IsIn}
use Rattle.p21_check.specs.Sets.{AnyIn, EachIn}

module _ {X : Type 0} where
  in_front : (xs ys : List X) (x : X) → IsIn xs x → IsIn (xs ++ ys) x
  in_front [] ys x h = absurd h
  in_front (y ∷ xs) ys x (inl e) = inl e
  in_front (y ∷ xs) ys x (inr h) = inr (in_front xs ys x h)

  in_back : (xs ys : List X) (x : X) → IsIn ys x → IsIn (xs ++ ys) x
  in_back [] ys x h = h
  in_back (y ∷ xs) ys x h = inr (in_back xs ys x h)

  in_split : (xs ys : List X) (x : X) → IsIn (xs ++ ys) x → IsIn xs x ⊎ IsIn ys x
  in_split [] ys x h = inr h
  in_split (y ∷ xs) ys x (inl e) = inl (inl e)
  in_split (y ∷ xs) ys x (inr h) = ⊎_elim (λ (k : IsIn xs x). inl (inr k)) (λ (k : IsIn ys x). inr k) (in_split xs ys x h)

  -- what is in two lists together is in one of them
  pub in_both : (xs ys : List X) (x : X) → IsIn (xs ++ ys) x ↔ (IsIn xs x ⊎ IsIn ys x)
  in_both xs ys x = (λ h. in_split xs ys x h, λ h. ⊎_elim (λ (k : IsIn xs x). in_front xs ys x k) (λ (k : IsIn ys x). in_back xs ys x k) h)

module _ {X : Type 0} (P : X → Type 0) (xs : List X) where
  -- one element more
  pub any_taken : (i : ℕ) (d : X) → i < length xs → AnyIn (take (i + 1) xs) P ↔ (AnyIn (take i xs) P ⊎ P (get_or xs i d))
  any_taken i d h = rw (take_more xs i d h) (
    λ a. ⊎_elim (λ (k : IsIn (take i xs) a.0). inl (a.0, k, a.2)) (λ (k : IsIn (get_or xs i d ∷ []) a.0). ⊎_elim (λ (e : get_or xs i d ≡ a.0). inr (subst P (sym e) a.2)) (λ (z : ⊥). absurd z) k) ((in_both (take i xs) (get_or xs i d ∷ []) a.0).0 a.1),
    λ a. ⊎_elim
        (λ (k : AnyIn (take i xs) P). (k.0, (in_both (take i xs) (get_or xs i d ∷ []) k.0).1 (inl k.1), k.2))
        (λ (k : P (get_or xs i d)). (get_or xs i d, (in_both (take i xs) (get_or xs i d ∷ []) (get_or xs i d)).1 (inr (inl refl)), k)) a,
  )

  pub any_here : (i : ℕ) (d : X) → i < length xs → P (get_or xs i d) → AnyIn (drop i xs) P ↔ AnyIn xs P → AnyIn xs P
  any_here i d h this left = left.0 (get_or xs i d, subst (λ l. IsIn l (get_or xs i d)) (sym (drop_more xs i d h)) (inl refl), this)

  pub any_further : (i : ℕ) (d : X) → i < length xs → ¬ (P (get_or xs i d)) → AnyIn (drop i xs) P ↔ AnyIn xs P → AnyIn (drop (i + 1) xs) P ↔ AnyIn xs P
  any_further i d h this left = (
    λ k. left.0 (k.0, subst (λ l. IsIn l k.0) (sym (drop_more xs i d h)) (inr k.1), k.2),
    λ k. let found = left.1 k in
        ⊎_elim
        (λ (g : get_or xs i d ≡ found.0). absurd (this (subst P (sym g) found.2)))
        (λ (g : IsIn (drop (i + 1) xs) found.0). (found.0, g, found.2))
        (subst (λ l. IsIn l found.0) (drop_more xs i d h) found.1),
  )

  pub any_nowhere : (i : ℕ) → length xs ≤ i → AnyIn (drop i xs) P ↔ AnyIn xs P → ¬ (AnyIn xs P)
  any_nowhere i h left k = let found = left.1 k in subst (λ l. IsIn l found.0) (drop_all i xs h) found.1

module _ {X : Type 0} (P : X → Type 0) (xs : List X) where
  pub each_further : (i : ℕ) (d : X) → i < length xs → P (get_or xs i d) → EachIn (drop i xs) P ↔ EachIn xs P → EachIn (drop (i + 1) xs) P ↔ EachIn xs P
  each_further i d h this left = (
    λ k. left.0 (λ x j. ⊎_elim (λ (g : get_or xs i d ≡ x). subst P g this) (λ (g : IsIn (drop (i + 1) xs) x). k x g) (subst (λ l. IsIn l x) (drop_more xs i d h) j)),
    λ k x j. left.1 k x (subst (λ l. IsIn l x) (sym (drop_more xs i d h)) (inr j)),
  )

  pub each_stops : (i : ℕ) (d : X) → i < length xs → ¬ (P (get_or xs i d)) → EachIn (drop i xs) P ↔ EachIn xs P → ¬ (EachIn xs P)
  each_stops i d h this left k = this (left.1 k (get_or xs i d) (subst (λ l. IsIn l (get_or xs i d)) (sym (drop_more xs i d h)) (inl refl)))

  pub each_done : (i : ℕ) → length xs ≤ i → EachIn (drop i xs) P ↔ EachIn xs P → EachIn xs P
  each_done i h left = left.0 (λ x j. absurd (subst (λ l. IsIn l x) (drop_all i xs h) j))

pub zip_at : {A B : Type 0} (R : A → B → Type 0) (xs : List A) (ys : List B) (i : ℕ) (x : A) (y : B) → AllZip R xs ys → i < length xs → R (get_or xs i x) (get_or ys i y)
zip_at R [] [] i x y z h = absurd (omega arith)
zip_at R [] (b ∷ ys) i x y z h = absurd z
zip_at R (a ∷ xs) [] i x y z h = absurd z
zip_at R (a ∷ xs) (b ∷ ys) zero x y z h = z.0
zip_at R (a ∷ xs) (b ∷ ys) (suc i) x y z h = zip_at R xs ys i x y z.1 (omega arith)

pub zip_length : {A B : Type 0} (R : A → B → Type 0) (xs : List A) (ys : List B) → AllZip R xs ys → length xs ≡ length ys
zip_length R [] [] z = refl
zip_length R [] (b ∷ ys) z = absurd z
zip_length R (a ∷ xs) [] z = absurd z
zip_length R (a ∷ xs) (b ∷ ys) z = ap suc (zip_length R xs ys z.1)
