-- Numbers that stand twice in a list.
use Rattle.std.proofs.Common.{◌≡◌, ◌⊎◌, ⊎_elim, inl, inr, ℕ, zero, suc, ◌+◌, ◌<◌, ◌≤◌, eqb, List, [], ◌∷◌, length, get_or, Option, Some, refl, sym, subst, ◌∙◌, arith}
use Rattle.std.specs.List.{IsDistinct}
use Rattle.std.specs.List.Sorted.{IsPermutation, IsNonDecreasing}
use Rattle.std.proofs.lemmas.Bool.{cases_eq, eq-eqb, ne_eqb, false≢true}
use Rattle.std.proofs.lemmas.List.Sorted.{IsPermutation-sym}
use Rattle.std.proofs.lemmas.Map.Keys.{IsDistinct-IsPermutation}
use Rattle.p21_express.specs.WellFormed.{IsIn}
use Rattle.p21_check.specs.Repeats.{HasTwice}
use Rattle.p21_check.specs.RepeatedNames.{IsAbove}

-- ---- names that rise

-- each is above the one before it, and the first above the last one, where there is one
abbrev pub IsRising : Option ℕ → List ℕ → Type 0
IsRising last [] = Unit {0}
IsRising last (n ∷ ns) = IsAbove last n × IsRising (Some n) ns

rising_above : (m : ℕ) (ns : List ℕ) → IsRising (Some m) ns → (n : ℕ) → IsIn ns n → m < n
rising_above m [] h n i = absurd i
rising_above m (x ∷ ns) h n (inl e) = let less = h.0 in omega arith
rising_above m (x ∷ ns) h n (inr i) = let less = h.0 in let more = rising_above x ns h.1 n i in omega arith

pub rising_once : (last : Option ℕ) (ns : List ℕ) → IsRising last ns → ¬ (HasTwice ns)
rising_once last [] h t = t
rising_once last (n ∷ ns) h (inl i) = let less = rising_above n ns h.1 n i in absurd (omega arith)
rising_once last (n ∷ ns) h (inr t) = rising_once (Some n) ns h.1 t

-- ---- in another order

flips : (x y : ℕ) → eqb x y ≡ eqb y x
flips x y = ⊎_elim (λ (e : x ≡ y). eq-eqb x y e ∙ sym (eq-eqb y x (sym e))) (λ (e : ¬ (x ≡ y)). ne_eqb x y e ∙ sym (ne_eqb y x (λ f. e (sym f)))) (cases_eq x y)

once_apart : (n : ℕ) (ns : List ℕ) → IsDistinct eqb (n ∷ ns) → ¬ (IsIn ns n)
unfolding IsDistinct
once_apart n [] h i = i
once_apart n (x ∷ ns) h (inl e) = false≢true (sym h.0.0 ∙ eq-eqb n x (sym e))
once_apart n (x ∷ ns) h (inr i) = once_apart n ns (h.0.1, h.1.1) i

distinct_once : (ns : List ℕ) → IsDistinct eqb ns → ¬ (HasTwice ns)
unfolding IsDistinct
distinct_once [] h t = t
distinct_once (n ∷ ns) h (inl i) = once_apart n ns h i
distinct_once (n ∷ ns) h (inr t) = distinct_once ns h.1 t

one_more : (n : ℕ) (ns : List ℕ) → IsDistinct eqb ns → IsIn ns n ⊎ IsDistinct eqb (n ∷ ns)
unfolding IsDistinct
one_more n [] h = inr (tt, tt)
one_more n (x ∷ ns) h =
    ⊎_elim
    (λ (e : x ≡ n). inl (inl e))
    (λ (e : ¬ (x ≡ n)). ⊎_elim (λ (i : IsIn ns n). inl (inr i)) (λ (d : IsDistinct eqb (n ∷ ns)). inr ((ne_eqb n x (λ f. e (sym f)), d.0), h)) (one_more n ns h.1))
    (cases_eq x n)

twice_or_distinct : (ns : List ℕ) → HasTwice ns ⊎ IsDistinct eqb ns
unfolding IsDistinct
twice_or_distinct [] = inr tt
twice_or_distinct (n ∷ ns) =
    ⊎_elim
    (λ (t : HasTwice ns). inl (inr t))
    (λ (d : IsDistinct eqb ns). ⊎_elim (λ (i : IsIn ns n). inl (inl i)) (λ (e : IsDistinct eqb (n ∷ ns)). inr e) (one_more n ns d))
    (twice_or_distinct ns)

pub twice_permuted : (xs ys : List ℕ) → IsPermutation xs ys → HasTwice xs → HasTwice ys
twice_permuted xs ys p t =
    ⊎_elim (λ (k : HasTwice ys). k) (λ (d : IsDistinct eqb ys). absurd (distinct_once xs (IsDistinct-IsPermutation eqb flips ys xs (IsPermutation-sym xs ys p) d) t)) (twice_or_distinct ys)

-- ---- names that do not fall

in_at : (ns : List ℕ) (i : ℕ) → i < length ns → IsIn ns (get_or ns i 0)
in_at [] i h = absurd (omega arith)
in_at (n ∷ ns) zero h = inl refl
in_at (n ∷ ns) (suc i) h = inr (in_at ns i (omega arith))

at_in : (ns : List ℕ) (n : ℕ) → IsIn ns n → (i : ℕ) × (i < length ns) × (get_or ns i 0 ≡ n)
at_in [] n h = absurd h
at_in (x ∷ ns) n (inl e) = (0, omega arith, e)
at_in (x ∷ ns) n (inr h) = let k = at_in ns n h in (suc k.0, (let l = k.1 in omega arith), k.2)

-- two neighbors are equal
pub twice_here : (ns : List ℕ) (i k : ℕ) → i + 1 ≡ k → k < length ns → get_or ns i 0 ≡ get_or ns k 0 → HasTwice ns
twice_here [] i k is h e = absurd (omega arith)
twice_here (n ∷ ns) i zero is h e = absurd (omega arith)
twice_here (n ∷ ns) zero (suc k) is h e = inl (subst (IsIn ns) (sym e) (in_at ns k (omega arith)))
twice_here (n ∷ ns) (suc i) (suc k) is h e = inr (twice_here ns i k (omega arith) (omega arith) e)

-- no two neighbors are
pub once_by_neighbors : (ns : List ℕ) → IsNonDecreasing ns → ((i k : ℕ) → i + 1 ≡ k → k < length ns → ¬ (get_or ns i 0 ≡ get_or ns k 0)) → ¬ (HasTwice ns)
once_by_neighbors [] up differ t = t
once_by_neighbors (n ∷ ns) up differ (inl i) =
    let found = at_in ns n i in
    let less = found.1 in
    let is = found.2 in
    let low : n ≤ get_or ns 0 0 = up 0 1 0 (omega arith) (omega arith) in
    let high : get_or ns 0 0 ≤ get_or ns found.0 0 = up 1 (suc found.0) 0 (omega arith) (omega arith) in
    differ 0 1 refl (omega arith) (omega arith)
once_by_neighbors (n ∷ ns) up differ (inr t) =
    once_by_neighbors ns (λ i k d h l. up (suc i) (suc k) d (omega arith) (omega arith)) (λ i k is h. differ (suc i) (suc k) (omega arith) (omega arith)) t
