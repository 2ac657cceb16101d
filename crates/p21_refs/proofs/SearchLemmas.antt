-- What a search for the first place, by answers, says of the numbers that were asked.
use Rattle.std.proofs.Common.{◌≡◌, inl, inr, ℕ, zero, suc, ◌+◌, ◌-◌, ◌^◌, ◌<◌, ◌≤◌, Bool, true, false, Option, Some, None, List, [], ◌∷◌, length, refl, subst, arith}
use Rattle.std.specs.Prelude.{min}
use Rattle.std.specs.Option.{option_map}
use Rattle.std.specs.List.{AllZip, range_with_len}
use Rattle.std.proofs.lemmas.Bool.{cases_lt}
use Rattle.p21_express.specs.Schema.{Schema}
use Rattle.p21_tree.specs.Sentence.{Instance}
use Rattle.rayon.specs.Lists.{first_true}
use Rattle.p21_refs.specs.Places.{AreAnsweredBefore, IsFaultinessAt, IsFirstFaulty}

-- one place more, up to the largest
abbrev next_place : ℕ → ℕ
next_place k = min (k + 1) (2 ^ 64 - 1)

no_more : (o : Option ℕ) → option_map next_place o ≡ None → o ≡ None
no_more None e = refl
no_more (Some k) e = cc

one_less : (o : Option ℕ) (k : ℕ) → option_map next_place o ≡ Some k → (j : ℕ) × (o ≡ Some j) × (k ≡ next_place j)
one_less None k e = absurd (cc)
one_less (Some j) k e = (j, refl, cc)

module _ (P : ℕ → Bool → Type 0) where
  -- a fact of the first number and of those after it
  from_first : (from n : ℕ) → P from false → ((k : ℕ) → from + 1 ≤ k → k < n → P k false) → (k : ℕ) → from ≤ k → k < n → P k false
  from_first from n first behind k low high = elim (cases_lt from k) [
    | inl less ↦ behind k (omega arith) high
    | inr here ↦ let same : from ≡ k = omega arith in subst (λ x. P x false) same first
  ]

  -- where no answer is true, each is false
  none_true : (from n : ℕ) (bs : List Bool) → AllZip P (range_with_len from n) bs → first_true bs ≡ None
      → (k : ℕ) → from ≤ k → k < from + n → P k false
  none_true from zero bs h none k low high = absurd (omega arith)
  none_true from (suc n) [] h none k low high = absurd h
  none_true from (suc n) (true ∷ bs) h none k low high = absurd (cc)
  none_true from (suc n) (false ∷ bs) h none k low high =
      let rest = none_true (from + 1) n bs h.1 (no_more (first_true bs) none) in
      from_first from (from + suc n) h.0 (λ j l r. rest j l (omega arith)) k low high

  -- where the first true answer is at an offset, those before it are false
  some_true : (from n : ℕ) (bs : List Bool) (offset : ℕ) → AllZip P (range_with_len from n) bs → n < 2 ^ 64 → first_true bs ≡ Some offset
      → (offset < n) × P (from + offset) true × ((k : ℕ) → from ≤ k → k < from + offset → P k false)
  some_true from zero [] offset h small e = absurd (cc)
  some_true from zero (b ∷ bs) offset h small e = absurd h
  some_true from (suc n) [] offset h small e = absurd h
  some_true from (suc n) (true ∷ bs) offset h small e =
      let none : 0 ≡ offset = cc in
      (omega arith, (let here : from ≡ from + offset = omega arith in subst (λ x. P x true) here h.0), λ k low high. absurd (omega arith))
  some_true from (suc n) (false ∷ bs) offset h small e =
      let less = one_less (first_true bs) offset e in
      let rest = some_true (from + 1) n bs less.0 h.1 (omega arith) less.1 in
      let bound : less.0 < n = rest.0 in
      let next : offset ≡ less.0 + 1 = (let m = less.2 in omega arith) in
      let there : from + 1 + less.0 ≡ from + offset = omega arith in
      (omega arith, subst (λ x. P x true) there rest.1, from_first from (from + offset) h.0 (λ k l r. rest.2 k l (omega arith)))

-- no instance of a stride is at fault
pub stride_answered : (s : Schema) (all : List Instance) (from to : ℕ) (bs : List Bool) → from ≤ to → AreAnsweredBefore s all from
    → AllZip (IsFaultinessAt s all) (range_with_len from (to - from)) bs → first_true bs ≡ None → AreAnsweredBefore s all to
stride_answered s all from to bs stride before answers none place less = elim (cases_lt place from) [
  | inl earlier ↦ before place earlier
  | inr within ↦ none_true (IsFaultinessAt s all) from (to - from) bs answers none place within (omega arith)
]

-- the first instance of a stride that is at fault
pub stride_faulty : (s : Schema) (all : List Instance) (from to : ℕ) (bs : List Bool) (offset : ℕ) → from ≤ to → to ≤ length all → to < 2 ^ 64 → AreAnsweredBefore s all from
    → AllZip (IsFaultinessAt s all) (range_with_len from (to - from)) bs → first_true bs ≡ Some offset → (from + offset < to) × IsFirstFaulty s all (from + offset)
stride_faulty s all from to bs offset stride within small before answers e =
    let found = some_true (IsFaultinessAt s all) from (to - from) bs offset answers (omega arith) e in
    let less : offset < to - from = found.0 in (
      omega arith,
      record {
        within = omega arith;
        before = λ place earlier. elim (cases_lt place from) [
          | inl front ↦ before place front
          | inr behind ↦ found.2 place behind earlier
        ];
        faulty = found.1;
      },
    )
