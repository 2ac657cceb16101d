-- Reading many things one after the other, as a loop does.
use Rattle.std.proofs.Common.{◌≡◌, ℕ, zero, suc, ◌<◌, Bool, true, false, List, [], ◌∷◌, ◌++◌, length, Option, Some, None, refl, sym, ap, ◌∙◌, append_assoc, arith}
use Rattle.std.proofs.lemmas.List.{append-nil}
use Rattle.p21_express.specs.Word.{Word}
use Rattle.p21_express.specs.Reader.{◌>>=◌, many, many_at}

-- what was read before, and what is still read
abbrev pub with_read : {X : Type 0} → List X → Option (List X × List Word) → Option (List X × List Word)
with_read front read = read >>= λ x. Some (front ++ x.0, x.1)

-- `so_far` was read, and the rest is read still
pub record Going {X : Type 0} (stops : List Word → Bool) (item : List Word → Option (X × List Word)) (whole rest : List Word) (so_far : List X) : Type 0 where
  pub fuel : ℕ
  pub enough : length rest < fuel
  pub same : with_read so_far (many stops item fuel rest) ≡ many_at stops item whole

with_none : {X : Type 0} (read : Option (List X × List Word)) → with_read [] read ≡ read
with_none None = refl
with_none (Some x) = refl

regroup : {X : Type 0} (front : List X) (x : X) (read : Option (List X × List Word)) → with_read front (read >>= λ xs. Some (x ∷ xs.0, xs.1)) ≡ with_read (front ++ x ∷ []) read
regroup front x None = refl
regroup {X} front x (Some xs) = ap (λ (ns : List X). Some (ns, xs.1)) (simp append_assoc)

module _ {X : Type 0} (stops : List Word → Bool) (item : List Word → Option (X × List Word)) (whole : List Word) where
  pub begins : Going stops item whole whole []
  begins = record { fuel = suc (length whole); enough = omega arith; same = with_none (many stops item (suc (length whole)) whole) }

  more-fuel : (rest mid : List Word) (so_far : List X) (x : X) (fuel : ℕ) → length rest < fuel → length mid < length rest → stops rest ≡ false → item rest ≡ Some (x, mid) → with_read so_far (many stops item fuel rest) ≡ many_at stops item whole → Going stops item whole mid (so_far ++ x ∷ [])
  unfolding many
  more-fuel rest mid so_far x zero enough shorter go read same = absurd (omega arith)
  more-fuel rest mid so_far x (suc n) enough shorter go read same =
      let one : with_read so_far (many stops item (suc n) rest) ≡ with_read (so_far ++ x ∷ []) (many stops item n mid) = rw (go, read) (regroup so_far x (many stops item n mid)) in
      record { fuel = n; enough = omega arith; same = sym one ∙ same }

  pub goes_on : (rest mid : List Word) (so_far : List X) (x : X) → Going stops item whole rest so_far → length mid < length rest → stops rest ≡ false → item rest ≡ Some (x, mid) → Going stops item whole mid (so_far ++ x ∷ [])
  goes_on rest mid so_far x g shorter go read = more-fuel rest mid so_far x g.fuel g.enough shorter go read g.same

  fails-fuel : (rest : List Word) (so_far : List X) (fuel : ℕ) → length rest < fuel → stops rest ≡ false → item rest ≡ None → with_read so_far (many stops item fuel rest) ≡ many_at stops item whole → many_at stops item whole ≡ None
  unfolding many
  fails-fuel rest so_far zero enough go read same = absurd (omega arith)
  fails-fuel rest so_far (suc n) enough go read same =
      let one : with_read so_far (many stops item (suc n) rest) ≡ None = rw (go, read) refl in
      sym same ∙ one

  pub fails : (rest : List Word) (so_far : List X) → Going stops item whole rest so_far → stops rest ≡ false → item rest ≡ None → many_at stops item whole ≡ None
  fails rest so_far g go read = fails-fuel rest so_far g.fuel g.enough go read g.same

  done-fuel : (rest : List Word) (so_far : List X) (fuel : ℕ) → length rest < fuel → stops rest ≡ true → with_read so_far (many stops item fuel rest) ≡ many_at stops item whole → many_at stops item whole ≡ Some (so_far, rest)
  unfolding many
  done-fuel rest so_far zero enough go same = absurd (omega arith)
  done-fuel rest so_far (suc n) enough go same =
      let one : with_read so_far (many stops item (suc n) rest) ≡ Some (so_far, rest) = rw go (ap (λ (ns : List X). Some (ns, rest)) (append-nil so_far)) in
      sym same ∙ one

  pub is_done : (rest : List Word) (so_far : List X) → Going stops item whole rest so_far → stops rest ≡ true → many_at stops item whole ≡ Some (so_far, rest)
  is_done rest so_far g go = done-fuel rest so_far g.fuel g.enough go g.same

-- a first one, and others after it
abbrev pub list_at : {X : Type 0} → (List Word → Bool) → (List Word → Option (X × List Word)) → Option (X × List Word) → Option (List X × List Word)
list_at stops item start = start >>= λ x. many_at stops item x.1 >>= λ xs. Some (x.0 ∷ xs.0, xs.1)

-- the first one and more were read, and the rest is read still
pub record GoingFrom {X : Type 0} (stops : List Word → Bool) (item : List Word → Option (X × List Word)) (start : Option (X × List Word)) (rest : List Word) (found : List X) : Type 0 where
  pub first : X
  pub whole : List Word
  pub started : start ≡ Some (first, whole)
  pub so_far : List X
  pub found_is : found ≡ first ∷ so_far
  pub going : Going stops item whole rest so_far

module _ {X : Type 0} (stops : List Word → Bool) (item : List Word → Option (X × List Word)) (start : Option (X × List Word)) where
  pub begins_from : (first : X) (whole : List Word) → start ≡ Some (first, whole) → GoingFrom stops item start whole (first ∷ [])
  begins_from first whole e = record { first = first; whole = whole; started = e; so_far = []; found_is = refl; going = begins stops item whole }

  pub goes_on_from : (rest mid : List Word) (found : List X) (x : X) → GoingFrom stops item start rest found → length mid < length rest → stops rest ≡ false → item rest ≡ Some (x, mid) → GoingFrom stops item start mid (found ++ x ∷ [])
  goes_on_from rest mid found x g shorter go read = record { first = g.first; whole = g.whole; started = g.started; so_far = g.so_far ++ x ∷ []; found_is = ap (λ (xs : List X). xs ++ x ∷ []) g.found_is; going = goes_on stops item g.whole rest mid g.so_far x g.going shorter go read }

  pub is_done_from : (rest : List Word) (found : List X) → GoingFrom stops item start rest found → stops rest ≡ true → list_at stops item start ≡ Some (found, rest)
  is_done_from rest found g go = rw (g.started, is_done stops item g.whole rest g.so_far g.going go, g.found_is) refl

  pub fails_from : (rest : List Word) (found : List X) → GoingFrom stops item start rest found → stops rest ≡ false → item rest ≡ None → list_at stops item start ≡ None
  fails_from rest found g go read = rw (g.started, fails stops item g.whole rest g.so_far g.going go read) refl

pub list_same : {X Y : Type 0} (stops : List Word → Bool) (item : List Word → Option (X × List Word)) (start : Option (X × List Word)) (k : List X → List Word → Option Y) → (start >>= λ x. many_at stops item x.1 >>= λ xs. k (x.0 ∷ xs.0) xs.1) ≡ (list_at stops item start >>= λ xs. k xs.0 xs.1)
list_same stops item None k = refl
list_same {X = X} stops item (Some x) k = elim (many_at stops item x.1) as (λ (m : Option (List X × List Word)). ◌>>=◌ {A = List X × List Word} m (λ xs. k (x.0 ∷ xs.0) xs.1) ≡ ◌>>=◌ {A = List X × List Word} (◌>>=◌ {A = List X × List Word} {B = List X × List Word} m (λ xs. Some (x.0 ∷ xs.0, xs.1))) (λ xs. k xs.0 xs.1)) [ None ↦ refl | Some xs ↦ refl ]
