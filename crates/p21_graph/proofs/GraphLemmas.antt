-- In a graph without cycles some vertex waits for no other.
use Rattle.std.proofs.Common.{◌≡◌, ℕ, zero, suc, ◌+◌, ◌<◌, ◌≤◌, Bool, true, false, List, [], ◌∷◌, ◌++◌, ◌⊎◌, length, get_or, take, set, refl, sym, ◌∙◌, subst, inl, inr, ⊎_elim, arith, eqb}
use Rattle.std.specs.List.{list_any, IsDistinct, AllByRecursion}
use Rattle.std.proofs.lemmas.Bool.{false≢true, eqb-true, ne_eqb, or_cases, cases_eq}
use Rattle.std.proofs.lemmas.List.{take-append-le, take_all, get_or_append_left, get_or_push, length_push, get_or-set_same, get_or-set_other}
use Rattle.std.proofs.lemmas.Map.Steps.{length-le_from_distinct_below}
use Rattle.p21_graph.specs.Members.{IsIn, AreDistinct}
use Rattle.p21_graph.specs.Graph.{IsOrder, IsPlacedIn, IsMarked, AreMarked, waiting}
use Rattle.p21_graph.specs.MemberLaws.{in_right, in_left}

member : (xs : List ℕ) (x : ℕ) → list_any (eqb x) xs ≡ true → IsIn xs x
member [] x h = absurd (false≢true h)
member (y ∷ ys) x h = ⊎_elim (λ (e : eqb x y ≡ true). inl (sym (eqb-true x y e))) (λ (r : list_any (eqb x) ys ≡ true). inr (member ys x r)) (or_cases (eqb x y) (list_any (eqb x) ys) h)

differs : (xs : List ℕ) (x : ℕ) → ¬ (IsIn xs x) → AllByRecursion (λ y. eqb x y ≡ false) xs
differs [] x h = tt
differs (y ∷ ys) x h = (ne_eqb x y (λ e. h (inl (sym e))), differs ys x (λ i. h (inr i)))

apart : (xs : List ℕ) → AreDistinct xs → IsDistinct eqb xs
unfolding IsDistinct
apart [] h = tt
apart (x ∷ xs) h = (differs xs x h.0, apart xs h.1)

-- distinct numbers below n are at most n
pub few : (xs : List ℕ) (n : ℕ) → AreDistinct xs → ((x : ℕ) → IsIn xs x → x < n) → length xs ≤ n
few xs n d below = length-le_from_distinct_below xs n (apart xs d) (λ q t. below q (member xs q t))

-- where marks are only added, there are no more that wait, and fewer where one is added
pub no_more_waiting : (old new : List Bool) → length old ≡ length new → ((v : ℕ) → IsMarked old v → IsMarked new v) → waiting new ≤ waiting old
no_more_waiting [] [] e grows = omega arith
no_more_waiting [] (y ∷ ys) e grows = absurd (omega arith)
no_more_waiting (x ∷ xs) [] e grows = absurd (omega arith)
no_more_waiting (true ∷ xs) (true ∷ ys) e grows = no_more_waiting xs ys (omega arith) (λ v m. grows (suc v) m)
no_more_waiting (true ∷ xs) (false ∷ ys) e grows = absurd (false≢true (grows 0 refl))
no_more_waiting (false ∷ xs) (true ∷ ys) e grows = let h = no_more_waiting xs ys (omega arith) (λ v m. grows (suc v) m) in omega (arith, h)
no_more_waiting (false ∷ xs) (false ∷ ys) e grows = let h = no_more_waiting xs ys (omega arith) (λ v m. grows (suc v) m) in omega (arith, h)

pub fewer_waiting : (old new : List Bool) (v : ℕ) → length old ≡ length new → ((v : ℕ) → IsMarked old v → IsMarked new v) → v < length old → get_or old v false ≡ false → IsMarked new v → waiting new < waiting old
fewer_waiting [] new v e grows less was is = absurd (omega arith)
fewer_waiting (x ∷ xs) [] v e grows less was is = absurd (omega arith)
fewer_waiting (true ∷ xs) (y ∷ ys) zero e grows less was is = absurd (false≢true (sym was))
fewer_waiting (false ∷ xs) (false ∷ ys) zero e grows less was is = absurd (false≢true is)
fewer_waiting (false ∷ xs) (true ∷ ys) zero e grows less was is = let h = no_more_waiting xs ys (omega arith) (λ v m. grows (suc v) m) in omega (arith, h)
fewer_waiting (true ∷ xs) (true ∷ ys) (suc v) e grows less was is = fewer_waiting xs ys v (omega arith) (λ v m. grows (suc v) m) (omega arith) was is
fewer_waiting (true ∷ xs) (false ∷ ys) (suc v) e grows less was is = absurd (false≢true (grows 0 refl))
fewer_waiting (false ∷ xs) (true ∷ ys) (suc v) e grows less was is = let h = fewer_waiting xs ys v (omega arith) (λ v m. grows (suc v) m) (omega arith) was is in omega (arith, h)
fewer_waiting (false ∷ xs) (false ∷ ys) (suc v) e grows less was is = let h = fewer_waiting xs ys v (omega arith) (λ v m. grows (suc v) m) (omega arith) was is in omega (arith, h)

-- one vertex more, whose neighbors are placed
pub placed_more : (graph : List (List ℕ)) (row : List Bool) (order : List ℕ) (v : ℕ) → IsOrder graph order → IsPlacedIn row order → v < length graph → AreMarked row (get_or graph v []) → IsOrder graph (order ++ v ∷ [])
placed_more graph row order v h p less ready k kless =
    ⊎_elim
    (λ (before : k < length order).
    let e = get_or_append_left order (v ∷ []) 0 k before in
    let t : take k (order ++ v ∷ []) ≡ take k order = take-append-le k order (v ∷ []) (omega arith) in
    (rw e (h k before).0, λ b edge. subst (λ u. IsIn u b) (sym t) ((h k before).1 b (rw e at edge))))
    (λ (last : k ≡ length order).
    let e : get_or (order ++ v ∷ []) k 0 ≡ v = get_or_push order v 0 k (sym last) in
    let t : take k (order ++ v ∷ []) ≡ order = take-append-le k order (v ∷ []) (omega arith) ∙ take_all k order (omega arith) in
    (rw e less, λ b edge. subst (λ u. IsIn u b) (sym t) (p b (ready b (rw e at edge)))))
    (split k kless)
  where
    split : (k : ℕ) → k < length (order ++ v ∷ []) → (k < length order) ⊎ (k ≡ length order)
    split k less' = let n : k < length order + 1 = rw (← (length_push order v)) less' in ⊎_elim (λ (e : k ≡ length order). inr e) (λ (ne : (k ≡ length order) → ⊥). inl (omega arith)) (cases_eq k (length order))

-- a mark more
pub mark_stays : (row : List Bool) (i v : ℕ) → i < length row → IsMarked row v → IsMarked (set row i true) v
mark_stays row i v less m = ⊎_elim (λ (e : v ≡ i). rw e (get_or-set_same row i true false less)) (λ (ne : (v ≡ i) → ⊥). get_or-set_other row i v true false ne ∙ m) (cases_eq v i)

pub mark_cases : (row : List Bool) (i v : ℕ) → i < length row → IsMarked (set row i true) v → IsMarked row v ⊎ (v ≡ i)
mark_cases row i v less m = ⊎_elim (λ (e : v ≡ i). inr e) (λ (ne : (v ≡ i) → ⊥). inl (sym (get_or-set_other row i v true false ne) ∙ m)) (cases_eq v i)

pub placed_push : (row : List Bool) (order : List ℕ) (i : ℕ) → i < length row → IsPlacedIn row order → IsPlacedIn (set row i true) (order ++ i ∷ [])
placed_push row order i less p v m = ⊎_elim (λ (k : IsMarked row v). in_left order (i ∷ []) v (p v k)) (λ (e : v ≡ i). in_right order (i ∷ []) v (inl (sym e))) (mark_cases row i v less m)
