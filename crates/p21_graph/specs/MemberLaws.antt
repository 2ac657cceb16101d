-- Members of lists, and lists without repeats.
use Rattle.std.proofs.Common.{◌≡◌, ℕ, zero, suc, ◌+◌, ◌<◌, List, [], ◌∷◌, ◌++◌, ◌⊎◌, map, length, get_or, take, refl, sym, ap, subst, inl, inr, ⊎_elim, arith}
use Rattle.std.proofs.lemmas.List.{take_more}
use Rattle.std.proofs.lemmas.List.Sorted.{Contains-permutation}
use Rattle.std.specs.List.Sorted.{IsPermutation}
use Rattle.std.specs.List.{AllByRecursion}
use Rattle.p21_graph.specs.Members.{IsIn, AreDistinct}

-- a member stands at a place
pub place_of : {X : Type 0} (xs : List X) (x : X) → IsIn xs x → (k : ℕ) × ((k < length xs) × ((d : X) → get_or xs k d ≡ x))
place_of [] x h = absurd h
place_of (y ∷ ys) x (inl e) = (0, (omega arith, λ d. e))
place_of (y ∷ ys) x (inr h) = let r = place_of ys x h in (suc r.0, (omega (arith, r.1.0), r.1.1))

-- what stands at a place is a member
pub at_place : {X : Type 0} (xs : List X) (k : ℕ) (d : X) → k < length xs → IsIn xs (get_or xs k d)
at_place [] k d h = absurd (omega arith)
at_place (y ∷ ys) zero d h = inl refl
at_place (y ∷ ys) (suc k) d h = inr (at_place ys k d (omega arith))

pub in_left : {X : Type 0} (xs ys : List X) (x : X) → IsIn xs x → IsIn (xs ++ ys) x
in_left [] ys x h = absurd h
in_left (z ∷ zs) ys x (inl e) = inl e
in_left (z ∷ zs) ys x (inr h) = inr (in_left zs ys x h)

pub in_right : {X : Type 0} (xs ys : List X) (x : X) → IsIn ys x → IsIn (xs ++ ys) x
in_right [] ys x h = h
in_right (z ∷ zs) ys x h = inr (in_right zs ys x h)

pub in_either : {X : Type 0} (xs ys : List X) (x : X) → IsIn (xs ++ ys) x → IsIn xs x ⊎ IsIn ys x
in_either [] ys x h = inr h
in_either (z ∷ zs) ys x (inl e) = inl (inl e)
in_either (z ∷ zs) ys x (inr h) = ⊎_elim (λ (l : IsIn zs x). inl (inr l)) (λ (r : IsIn ys x). inr r) (in_either zs ys x h)

pub in_map : {X Y : Type 0} (f : X → Y) (xs : List X) (x : X) → IsIn xs x → IsIn (map f xs) (f x)
in_map f [] x h = absurd h
in_map f (y ∷ ys) x (inl e) = inl (ap f e)
in_map f (y ∷ ys) x (inr h) = inr (in_map f ys x h)

pub from_map : {X Y : Type 0} (f : X → Y) (xs : List X) (y : Y) → IsIn (map f xs) y → (x : X) × (IsIn xs x × (f x ≡ y))
from_map f [] y h = absurd h
from_map f (x ∷ xs) y (inl e) = (x, (inl refl, e))
from_map f (x ∷ xs) y (inr h) = let r = from_map f xs y h in (r.0, (inr r.1.0, r.1.1))

-- a member of the front is a member
pub in_front : {X : Type 0} (n : ℕ) (xs : List X) (x : X) → IsIn (take n xs) x → IsIn xs x
in_front zero xs x h = absurd h
in_front (suc n) [] x h = absurd h
in_front (suc n) (y ∷ ys) x (inl e) = inl e
in_front (suc n) (y ∷ ys) x (inr h) = inr (in_front n ys x h)

pub distinct_left : {X : Type 0} (xs ys : List X) → AreDistinct (xs ++ ys) → AreDistinct xs
distinct_left [] ys h = tt
distinct_left (x ∷ xs) ys h = (λ i. h.0 (in_left xs ys x i), distinct_left xs ys h.1)

pub distinct_right : {X : Type 0} (xs ys : List X) → AreDistinct (xs ++ ys) → AreDistinct ys
distinct_right [] ys h = h
distinct_right (x ∷ xs) ys h = distinct_right xs ys h.1

-- none of the right is in the left
pub distinct_apart : {X : Type 0} (xs ys : List X) (x : X) → AreDistinct (xs ++ ys) → IsIn xs x → ¬ (IsIn ys x)
distinct_apart [] ys x h i = absurd i
distinct_apart (z ∷ zs) ys x h (inl e) = λ j. h.0 (in_right zs ys z (subst (λ u. IsIn ys u) (sym e) j))
distinct_apart (z ∷ zs) ys x h (inr i) = distinct_apart zs ys x h.1 i

-- a list without repeats stays one with what is not in it after it
pub distinct_push : {X : Type 0} (xs : List X) (x : X) → AreDistinct xs → ¬ (IsIn xs x) → AreDistinct (xs ++ x ∷ [])
distinct_push [] x h n = ((λ i. i), tt)
distinct_push (y ∷ ys) x h n = ((λ i. ⊎_elim (λ (l : IsIn ys y). h.0 l) (λ (r : IsIn (x ∷ []) y). ⊎_elim (λ (e : x ≡ y). n (inl (sym e))) (λ (b : ⊥). b) r) (in_either ys (x ∷ []) y i)), distinct_push ys x h.1 (λ i. n (inr i)))

-- two places with one value are one place
pub same_place : {X : Type 0} (xs : List X) (i j : ℕ) (d : X) → AreDistinct xs → i < length xs → j < length xs → get_or xs i d ≡ get_or xs j d → i ≡ j
same_place [] i j d h p q e = absurd (omega arith)
same_place (x ∷ xs) zero zero d h p q e = refl
same_place (x ∷ xs) zero (suc j) d h p q e = let less : j < length xs = omega arith in absurd (h.0 (subst (λ u. IsIn xs u) (sym e) (at_place xs j d less)))
same_place (x ∷ xs) (suc i) zero d h p q e = let less : i < length xs = omega arith in absurd (h.0 (subst (λ u. IsIn xs u) e (at_place xs i d less)))
same_place (x ∷ xs) (suc i) (suc j) d h p q e = ap suc (same_place xs i j d h.1 (omega arith) (omega arith) e)

-- what stands at a place is no member of the front before it
pub not_before : {X : Type 0} (xs : List X) (i : ℕ) (d : X) → AreDistinct xs → i < length xs → ¬ (IsIn (take i xs) (get_or xs i d))
not_before [] i d h p = absurd (omega arith)
not_before (x ∷ xs) zero d h p = λ j. j
not_before (x ∷ xs) (suc i) d h p =
    let less : i < length xs = omega arith in
    λ j. ⊎_elim (λ (e : x ≡ get_or xs i d). h.0 (subst (λ u. IsIn xs u) (sym e) (at_place xs i d less))) (λ (k : IsIn (take i xs) (get_or xs i d)). not_before xs i d h.1 less k) j

-- a member of the front up to i, or what stands at i, is a member of the front up to i + 1, and the other way round
pub front_more : {X : Type 0} (xs : List X) (i : ℕ) (d x : X) → i < length xs → IsIn (take (i + 1) xs) x → IsIn (take i xs) x ⊎ (get_or xs i d ≡ x)
front_more xs i d x p h = ⊎_elim (λ (l : IsIn (take i xs) x). inl l) (λ (r : IsIn (get_or xs i d ∷ []) x). ⊎_elim (λ (e : get_or xs i d ≡ x). inr e) (λ (n : ⊥). absurd n) r) (in_either (take i xs) (get_or xs i d ∷ []) x (subst (λ u. IsIn u x) (take_more xs i d p) h))

pub front_in : {X : Type 0} (xs : List X) (i : ℕ) (d x : X) → i < length xs → IsIn (take i xs) x → IsIn (take (i + 1) xs) x
front_in xs i d x p h = subst (λ u. IsIn u x) (sym (take_more xs i d p)) (in_left (take i xs) (get_or xs i d ∷ []) x h)

pub last_in : {X : Type 0} (xs : List X) (i : ℕ) (d : X) → i < length xs → IsIn (take (i + 1) xs) (get_or xs i d)
last_in xs i d p = subst (λ u. IsIn u (get_or xs i d)) (sym (take_more xs i d p)) (in_right (take i xs) (get_or xs i d ∷ []) (get_or xs i d) (inl refl))

pub holds_of : {X : Type 0} (P : X → Type 0) (xs : List X) (x : X) → AllByRecursion P xs → IsIn xs x → P x
holds_of P [] x h i = absurd i
holds_of P (y ∷ ys) x h (inl e) = subst P e h.0
holds_of P (y ∷ ys) x h (inr i) = holds_of P ys x h.1 i

-- a permutation has the same members
pub in_permuted : {X : Type 0} (xs ys : List X) → IsPermutation xs ys → (x : X) → IsIn xs x → IsIn ys x
in_permuted xs ys h x i =
    let p = place_of xs x i in
    let q = Contains-permutation xs ys x h (p.0, p.1.0, p.1.1 x) in
    subst (λ u. IsIn ys u) q.2 (at_place ys q.0 x q.1)
