-- A name among names, one by one.
use Rattle.std.proofs.Common.{◌≡◌, ◌↔◌, ⊎_elim, inl, inr, ℕ, ◌+◌, ◌<◌, ◌≤◌, true, List, [], ◌∷◌, length, get_or, drop, map, refl, sym, ap, subst, arith, nat_eq}
use Rattle.std.proofs.lemmas.List.{drop_more, drop_all}
use Rattle.std.proofs.lemmas.Bool.{and_parts}
use Rattle.std.proofs.lemmas.Bool.Decides.{nat_tests}
use Rattle.std.specs.Cmp.Lexicographic.{pointwise}
use Rattle.p21_express.specs.WellFormed.{IsIn}

pub same_list : (a b : List ℕ) → pointwise nat_eq a b ≡ true → a ≡ b
same_list [] [] h = refl
same_list [] (y ∷ b) h = cc
same_list (x ∷ a) [] h = cc
same_list (x ∷ a) (y ∷ b) h =
    let parts = and_parts (nat_eq x y) (pointwise nat_eq a b) h in
    let head : x ≡ y = grind (arith, nat_tests, parts.0) in
    let tail : a ≡ b = same_list a b parts.1 in cc

pub list_self : (a : List ℕ) → pointwise nat_eq a a ≡ true
list_self [] = refl
list_self (x ∷ a) = let here : nat_eq x x ≡ true = grind (arith, nat_tests) in let rest = list_self a in rw (here, rest) refl

module _ {X : Type 0} (f : X → List ℕ) (xs : List X) (n : List ℕ) where
  split : (i : ℕ) (d : X) → i < length xs → map f (drop i xs) ≡ f (get_or xs i d) ∷ map f (drop (i + 1) xs)
  split i d h = ap (map f) (drop_more xs i d h)

  pub here : (i : ℕ) (d : X) → i < length xs → f (get_or xs i d) ≡ n → IsIn (map f (drop i xs)) n ↔ IsIn (map f xs) n → IsIn (map f xs) n
  here i d h e left = left.0 (subst (λ l. IsIn l n) (sym (split i d h)) (inl e))

  pub further : (i : ℕ) (d : X) → i < length xs → ¬ (f (get_or xs i d) ≡ n) → IsIn (map f (drop i xs)) n ↔ IsIn (map f xs) n → IsIn (map f (drop (i + 1) xs)) n ↔ IsIn (map f xs) n
  further i d h e left = (
    λ k. left.0 (subst (λ l. IsIn l n) (sym (split i d h)) (inr k)),
    λ k. ⊎_elim (λ (g : f (get_or xs i d) ≡ n). absurd (e g)) (λ (g : IsIn (map f (drop (i + 1) xs)) n). g) (subst (λ l. IsIn l n) (split i d h) (left.1 k)),
  )

  pub nowhere : (i : ℕ) → length xs ≤ i → IsIn (map f (drop i xs)) n ↔ IsIn (map f xs) n → ¬ (IsIn (map f xs) n)
  nowhere i h left k = subst (λ l. IsIn (map f l) n) (drop_all i xs h) (left.1 k)
