-- Lemmas on lists whose elements each stand in a relation to their numbers.
use Rattle.std.proofs.Common.{◌≡◌, ◌≢◌, ℕ, zero, suc, ◌+◌, ◌<◌, ◌≤◌, List, [], ◌∷◌, ◌++◌, length, get_or, slice_set, sym, subst, ◌∙◌, arith}
use Rattle.p21_crew.specs.Each.{EachAt}

module _ {X : Type 0} where
  map_from : (R S : ℕ → X → Type 0) (k : ℕ) (xs : List X) → ((j : ℕ) (x : X) → k ≤ j → R j x → S j x) → EachAt R k xs → EachAt S k xs
  map_from R S k [] step all = tt
  map_from R S k (x ∷ xs) step all = (step k x (omega arith) all.0, map_from R S (suc k) xs (λ j y above r. step j y (omega arith) r) all.1)

  -- what stands in one relation stands in another
  pub each_map : (R S : ℕ → X → Type 0) (xs : List X) → ((j : ℕ) (x : X) → R j x → S j x) → EachAt R 0 xs → EachAt S 0 xs
  each_map R S xs step all = map_from R S 0 xs (λ j x above r. step j x r) all

  get_from : (R : ℕ → X → Type 0) (k i : ℕ) (xs : List X) (x : X) → i < length xs → x ≡ get_or xs i x → EachAt R k xs → R (k + i) x
  get_from R k i [] x less is all = absurd (omega arith)
  get_from R k zero (y ∷ xs) x less is all =
      let here : k + 0 ≡ k = omega arith in
      rw (here, is) all.0
  get_from R k (suc i) (y ∷ xs) x less is all =
      let here : k + suc i ≡ suc k + i = omega arith in
      let P : ℕ → Type 0 = λ n. R n x in
      subst P (sym here) (get_from R (suc k) i xs x (omega arith) is all.1)

  -- the element at a number
  pub each_at : (R : ℕ → X → Type 0) (i : ℕ) (xs : List X) (x : X) → i < length xs → x ≡ get_or xs i x → EachAt R 0 xs → R i x
  each_at R i xs x less is all =
      let here : 0 + i ≡ i = omega arith in
      let P : ℕ → Type 0 = λ n. R n x in
      subst P here (get_from R 0 i xs x less is all)

  set_from : (R S : ℕ → X → Type 0) (k i : ℕ) (xs : List X) (x : X) → i < length xs → EachAt R k xs → S (k + i) x → ((j : ℕ) (y : X) → j ≢ k + i → R j y → S j y) → EachAt S k (slice_set xs i x)
  set_from R S k i [] x less all at step = absurd (omega arith)
  set_from R S k zero (y ∷ xs) x less all at step =
      let here : k + 0 ≡ k = omega arith in
      let P : ℕ → Type 0 = λ n. S n x in
      (subst P here at, map_from R S (suc k) xs (λ j z above r. step j z (λ e. omega arith) r) all.1)
  set_from R S k (suc i) (y ∷ xs) x less all at step =
      let here : k + suc i ≡ suc k + i = omega arith in
      let P : ℕ → Type 0 = λ n. S n x in
      (step k y (λ e. omega arith) all.0, set_from R S (suc k) i xs x (omega arith) all.1 (subst P here at) (λ j z other r. step j z (λ e. other (e ∙ here)) r))

  -- one element is another, and the others stand as they did or in another relation
  pub each_set : (R S : ℕ → X → Type 0) (i : ℕ) (xs : List X) (x : X) → i < length xs → EachAt R 0 xs → S i x → ((j : ℕ) (y : X) → j ≢ i → R j y → S j y) → EachAt S 0 (slice_set xs i x)
  each_set R S i xs x less all at step =
      let here : i ≡ 0 + i = omega arith in
      let P : ℕ → Type 0 = λ n. S n x in
      set_from R S 0 i xs x less all (subst P here at) (λ j y other r. step j y (λ e. other (e ∙ here)) r)

  split_from : (P : X → Type 0) (k : ℕ) (xs : List X) (x : X) → EachAt (λ j y. P y) k (xs ++ x ∷ []) → EachAt (λ j y. P y) k xs × P x
  split_from P k [] x all = (tt, all.0)
  split_from P k (y ∷ xs) x all = let rest = split_from P (suc k) xs x all.1 in ((all.0, rest.0), rest.1)

  -- the elements before the last, and the last
  pub each_split : (P : X → Type 0) (xs : List X) (x : X) → EachAt (λ j y. P y) 0 (xs ++ x ∷ []) → EachAt (λ j y. P y) 0 xs × P x
  each_split P xs x all = split_from P 0 xs x all

  snoc_from : (P : X → Type 0) (k : ℕ) (xs : List X) (x : X) → EachAt (λ j y. P y) k xs → P x → EachAt (λ j y. P y) k (xs ++ x ∷ [])
  snoc_from P k [] x all one = (one, tt)
  snoc_from P k (y ∷ xs) x all one = (all.0, snoc_from P (suc k) xs x all.1 one)

  -- one more element
  pub each_snoc : (P : X → Type 0) (xs : List X) (x : X) → EachAt (λ j y. P y) 0 xs → P x → EachAt (λ j y. P y) 0 (xs ++ x ∷ [])
  each_snoc P xs x all one = snoc_from P 0 xs x all one
