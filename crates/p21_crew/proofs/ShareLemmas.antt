-- Lemmas on the shares that a list of lanes gives.
use Rattle.std.proofs.Common.{◌≡◌, ◌≢◌, ℕ, zero, suc, ◌<◌, ◌≤◌, true, false, List, [], ◌∷◌, ◌++◌, length, get_or, replicate, refl, sym, ap, arith, if◌then◌else◌}
use Rattle.std.specs.Prelude.{◌==◌}
use Rattle.std.proofs.lemmas.Bool.Decides.{nat_tests}
use Rattle.p21_desk.specs.Dealing.{share}

-- a lane is itself
pub same_lane : (l : ℕ) → (l == l) ≡ true
same_lane l = grind (arith, nat_tests)

-- a lane is no other
pub other_lane : (l lane : ℕ) → lane ≢ l → (l == lane) ≡ false
other_lane l lane other = grind (arith, nat_tests, other)

module _ {X : Type 0} where
  -- more pieces, each with its lane
  pub share-append : (dealt more : List ℕ) (lane : ℕ) (xs ys : List X) → length dealt ≡ length xs → share (dealt ++ more) lane (xs ++ ys) ≡ share dealt lane xs ++ share more lane ys
  share-append [] more lane [] ys one = refl
  share-append [] more lane (x ∷ xs) ys one = absurd (omega arith)
  share-append (l ∷ dealt) more lane [] ys one = absurd (omega arith)
  share-append (l ∷ dealt) more lane (x ∷ xs) ys one =
      elim (l == lane) as (λ b. (if b then x ∷ share (dealt ++ more) lane (xs ++ ys) else share (dealt ++ more) lane (xs ++ ys)) ≡ (if b then x ∷ share dealt lane xs else share dealt lane xs) ++ share more lane ys) [
        | true ↦ ap (λ zs. x ∷ zs) (share-append dealt more lane xs ys (omega arith))
        | false ↦ share-append dealt more lane xs ys (omega arith)
      ]

  -- pieces that all went to the lane
  pub share-all : (lane : ℕ) (xs : List X) → share (replicate (length xs) lane) lane xs ≡ xs
  share-all lane [] = refl
  share-all lane (x ∷ xs) = rw (same_lane lane) (ap (λ zs. x ∷ zs) (share-all lane xs))

  -- pieces that all went to another lane
  pub share-none : (n l lane : ℕ) (xs : List X) → lane ≢ l → share (replicate n l) lane xs ≡ []
  share-none zero l lane xs other = refl
  share-none (suc n) l lane [] other = refl
  share-none (suc n) l lane (x ∷ xs) other = rw (other_lane l lane other) (share-none n l lane xs other)

  -- no pieces, no shares
  pub share-empty : (dealt : List ℕ) (lane : ℕ) → share {X = X} dealt lane [] ≡ []
  share-empty [] lane = refl
  share-empty (l ∷ dealt) lane = refl

  -- lanes of pieces after the list change nothing
  pub share-longer : (dealt more : List ℕ) (lane : ℕ) (xs : List X) → length xs ≤ length dealt → share (dealt ++ more) lane xs ≡ share dealt lane xs
  share-longer [] more lane [] within = share-empty more lane
  share-longer [] more lane (x ∷ xs) within = absurd (omega arith)
  share-longer (l ∷ dealt) more lane [] within = refl
  share-longer (l ∷ dealt) more lane (x ∷ xs) within =
      ap (λ zs. if l == lane then x ∷ zs else zs) (share-longer dealt more lane xs (omega arith))

  -- the next of the pieces went to the lane
  pub share-next : (dealt : List ℕ) (lane : ℕ) (xs : List X) (x : X) → length xs < length dealt → lane ≡ get_or dealt (length xs) lane → share dealt lane (xs ++ x ∷ []) ≡ share dealt lane xs ++ x ∷ []
  share-next [] lane xs x less at = absurd (omega arith)
  share-next (l ∷ dealt) lane [] x less at =
      let is : l ≡ lane = sym at in
      rw (is, same_lane lane) (ap (λ zs. x ∷ zs) (share-empty dealt lane))
  share-next (l ∷ dealt) lane (y ∷ xs) x less at =
      elim (l == lane) as (λ b. (if b then y ∷ share dealt lane (xs ++ x ∷ []) else share dealt lane (xs ++ x ∷ [])) ≡ (if b then y ∷ share dealt lane xs else share dealt lane xs) ++ x ∷ []) [
        | true ↦ ap (λ zs. y ∷ zs) (share-next dealt lane xs x (omega arith) at)
        | false ↦ share-next dealt lane xs x (omega arith) at
      ]

  -- the next of the pieces went to another lane
  pub share-skip : (dealt : List ℕ) (l lane : ℕ) (xs : List X) (x : X) → length xs < length dealt → l ≡ get_or dealt (length xs) l → lane ≢ l → share dealt lane (xs ++ x ∷ []) ≡ share dealt lane xs
  share-skip [] l lane xs x less at other = absurd (omega arith)
  share-skip (m ∷ dealt) l lane [] x less at other =
      let is : m ≡ l = sym at in
      rw (is, other_lane l lane other) (share-empty dealt lane)
  share-skip (m ∷ dealt) l lane (y ∷ xs) x less at other =
      ap (λ zs. if m == lane then y ∷ zs else zs) (share-skip dealt l lane xs x (omega arith) at other)
