-- What is kept of a desk when one more piece is dealt, and when the next one is joined, and how many pieces wait in all.
use Rattle.std.proofs.Common.{◌≡◌, ◌≢◌, inl, inr, ℕ, zero, suc, ◌+◌, ◌-◌, ◌*◌, ◌<◌, ◌≤◌, true, false, List, [], ◌∷◌, ◌++◌, length, get_or, set, drop, add-one, refl, ap, sym, subst, ◌∙◌, arith, length-append, get_or-set_other}
use Rattle.std.specs.Prelude.{All, ◌==◌, cond, count_by}
use Rattle.std.proofs.lemmas.Bool.{cases_eq, cases_order, lt-ltb, le-ltb}
use Rattle.std.proofs.lemmas.Bool.Decides.{nat_tests}
use Rattle.std.proofs.lemmas.Grind.{get_or-set_at}
use Rattle.std.proofs.lemmas.List.{drop-append-le, length-drop, length-set, get_or_default}
use Rattle.std.proofs.lemmas.List.Elements.{All-drop, All-get_or, All-head, All-push, All-tail}
use Rattle.std.proofs.lemmas.List.Sums.{sum_by_push, sum_by-cons}
use Rattle.std.proofs.Math.Dec.{ltb}
use Rattle.std.proofs.Math.Nat.{suc-mul}
use Rattle.std.proofs.Math.Seq.{drop-cons}
use Rattle.p21_desk.specs.DeskFields.{IsKept}

-- how many of some pieces wait on a lane
abbrev waiting_of : ℕ → List ℕ → ℕ
waiting_of lane dealt = count_by (λ l. l == lane) dealt

-- 1 at a lane and 0 at the others
abbrev one_at : ℕ → ℕ → ℕ
one_at lane other = cond (lane == other) 1 0

one_at-same : (lane other : ℕ) → lane ≡ other → one_at lane other ≡ 1
one_at-same lane other h = let same : (lane == other) ≡ true = grind (arith, nat_tests, h) in ap (λ b. cond b 1 0) same

one_at-other : (lane other : ℕ) → lane ≢ other → one_at lane other ≡ 0
one_at-other lane other h = let differs : (lane == other) ≡ false = grind (arith, nat_tests, h) in ap (λ b. cond b 1 0) differs

-- one more piece after those that wait
waiting-dealt : (dealt : List ℕ) (joined lane other : ℕ) → joined ≤ length dealt
    → waiting_of other (drop joined (dealt ++ lane ∷ [])) ≡ waiting_of other (drop joined dealt) + one_at lane other
waiting-dealt dealt joined lane other h =
    ap (waiting_of other) (drop-append-le joined dealt (lane ∷ []) h)
    ∙ sum_by_push (λ l. one_at l other) (drop joined dealt) lane

-- the first of those that wait
waiting-next : (dealt : List ℕ) (joined lane other : ℕ) → joined < length dealt → lane ≡ get_or dealt joined lane
    → waiting_of other (drop joined dealt) ≡ one_at lane other + waiting_of other (drop (joined + 1) dealt)
waiting-next dealt joined lane other h at =
    rw add-one
    (ap (waiting_of other) (drop-cons dealt joined lane h ∙ ap (λ l. l ∷ drop (suc joined) dealt) (sym at))
    ∙ sum_by-cons (λ l. one_at l other) lane (drop (suc joined) dealt))

-- a number that is kept for a lane, where that of one lane is replaced
replaced : (waiting : List ℕ) (lane other n m : ℕ) → lane < length waiting
    → (lane ≡ other → n ≡ m) → (lane ≢ other → get_or waiting other 0 ≡ m) → get_or (set waiting lane n) other 0 ≡ m
replaced waiting lane other n m within here there = elim (cases_eq lane other) [
  | inl same ↦ get_or-set_at waiting lane other n 0 (sym same) within ∙ here same
  | inr differs ↦ get_or-set_other waiting lane other n 0 (λ e. differs (sym e)) ∙ there differs
]

pub kept-dealt : (lanes capacity : ℕ) (dealt longer : List ℕ) (joined : ℕ) (waiting : List ℕ) (lane n : ℕ)
    → IsKept lanes capacity dealt joined waiting → lane < lanes → longer ≡ dealt ++ lane ∷ []
    → n ≡ get_or waiting lane n → waiting_of lane (drop joined dealt) < capacity
    → IsKept lanes capacity longer joined (set waiting lane (n + 1))
kept-dealt lanes capacity dealt longer joined waiting lane n kept less more at room =
    let within : lane < length waiting = omega (arith, kept.one_each) in
    let number : n ≡ get_or waiting lane 0 = at ∙ get_or_default waiting lane n 0 within in
    let counted : (other : ℕ) → other < lanes → get_or (set waiting lane (n + 1)) other 0 ≡ waiting_of other (drop joined longer) =
    λ other h.
    let before = kept.counted other h in
    let after = ap (λ l. waiting_of other (drop joined l)) more ∙ waiting-dealt dealt joined lane other kept.joined_dealt in
    replaced waiting lane other (n + 1) (waiting_of other (drop joined longer)) within
    (λ same. omega (arith, after, before, one_at-same lane other same, number, ap (λ l. get_or waiting l 0) same))
    (λ differs. omega (arith, after, before, one_at-other lane other differs)) in
    record {
      of_lanes = subst (All (λ l. l < lanes)) (sym more) (All-push (λ l. l < lanes) dealt lane kept.of_lanes less);
      joined_dealt = omega (arith, kept.joined_dealt, ap length more, length-append dealt (lane ∷ []));
      one_each = length-set waiting lane (n + 1) ∙ kept.one_each;
      counted = counted;
      window = λ other h. elim (cases_eq lane other) [
        | inl same ↦ omega (arith, get_or-set_at waiting lane other (n + 1) 0 (sym same) within, number, kept.counted lane less)
        | inr differs ↦ omega (arith, get_or-set_other waiting lane other (n + 1) 0 (λ e. differs (sym e)), kept.window other h)
      ];
    }

-- the next piece is of one of the lanes
of_lanes : (lanes joined lane : ℕ) (dealt : List ℕ) → All (λ l. l < lanes) dealt → joined < length dealt → lane ≡ get_or dealt joined lane → lane < lanes
of_lanes lanes joined lane dealt each unjoined at =
    let here = All-get_or (λ l. l < lanes) dealt joined lane unjoined each in omega arith

-- the number that is kept for the lane of the next piece counts that piece
pub waits : (lanes capacity : ℕ) (dealt : List ℕ) (joined : ℕ) (waiting : List ℕ) (lane n : ℕ)
    → IsKept lanes capacity dealt joined waiting → joined < length dealt
    → lane ≡ get_or dealt joined lane → n ≡ get_or waiting lane n → 1 ≤ n
waits lanes capacity dealt joined waiting lane n kept unjoined at number =
    let less : lane < lanes = of_lanes lanes joined lane dealt kept.of_lanes unjoined at in
    omega (arith, number, get_or_default waiting lane n 0 (omega (arith, kept.one_each)), kept.counted lane less, waiting-next dealt joined lane lane unjoined at, one_at-same lane lane refl)

pub kept-joined : (lanes capacity : ℕ) (dealt : List ℕ) (joined : ℕ) (waiting : List ℕ) (lane n : ℕ)
    → IsKept lanes capacity dealt joined waiting → joined < length dealt
    → lane ≡ get_or dealt joined lane → n ≡ get_or waiting lane n
    → IsKept lanes capacity dealt (joined + 1) (set waiting lane (n - 1))
kept-joined lanes capacity dealt joined waiting lane n kept unjoined at number =
    let less : lane < lanes = of_lanes lanes joined lane dealt kept.of_lanes unjoined at in
    let within : lane < length waiting = omega (arith, kept.one_each) in
    let here : n ≡ get_or waiting lane 0 = number ∙ get_or_default waiting lane n 0 within in
    let positive = waits lanes capacity dealt joined waiting lane n kept unjoined at number in
    record {
      of_lanes = kept.of_lanes;
      joined_dealt = omega arith;
      one_each = length-set waiting lane (n - 1) ∙ kept.one_each;
      counted = λ other h.
          let before = kept.counted other h in
          let after = waiting-next dealt joined lane other unjoined at in
          replaced waiting lane other (n - 1) (waiting_of other (drop (joined + 1) dealt)) within
          (λ same. omega (arith, after, before, one_at-same lane other same, here, ap (λ l. get_or waiting l 0) same))
          (λ differs. omega (arith, after, before, one_at-other lane other differs));
      window = λ other h. elim (cases_eq lane other) [
        | inl same ↦ omega (arith, get_or-set_at waiting lane other (n - 1) 0 (sym same) within, here, kept.window lane less)
        | inr differs ↦ omega (arith, get_or-set_other waiting lane other (n - 1) 0 (λ e. differs (sym e)), kept.window other h)
      ];
    }

-- 1 at a lane below n and 0 at the others
abbrev one_below : ℕ → ℕ → ℕ
one_below n lane = cond (ltb lane n) 1 0

one_below-yes : (n lane : ℕ) → lane < n → one_below n lane ≡ 1
one_below-yes n lane less = ap (λ b. cond b 1 0) (lt-ltb lane n less)

one_below-no : (n lane : ℕ) → n ≤ lane → one_below n lane ≡ 0
one_below-no n lane above = ap (λ b. cond b 1 0) (le-ltb lane n above)

one_below-more : (n lane : ℕ) → one_below (suc n) lane ≡ one_below n lane + one_at lane n
one_below-more n lane = elim (cases_order lane n) [
  | inl same ↦ omega (arith, one_below-yes (suc n) lane (omega arith), one_below-no n lane (omega arith), one_at-same lane n same)
  | inr other ↦ elim other [
    | inl less ↦ omega (arith, one_below-yes (suc n) lane (omega arith), one_below-yes n lane less, one_at-other lane n (λ e. absurd (omega arith)))
    | inr above ↦ omega (arith, one_below-no (suc n) lane (omega arith), one_below-no n lane (omega arith), one_at-other lane n (λ e. absurd (omega arith)))
  ]
]

-- how many pieces wait on the lanes below n
abbrev waiting_below : ℕ → List ℕ → ℕ
waiting_below n dealt = count_by (λ l. ltb l n) dealt

waiting_below-cons : (n lane : ℕ) (dealt : List ℕ) → waiting_below n (lane ∷ dealt) ≡ one_below n lane + waiting_below n dealt
waiting_below-cons n lane dealt = sum_by-cons (one_below n) lane dealt

waiting_below-none : (dealt : List ℕ) → waiting_below 0 dealt ≡ 0
waiting_below-none [] = refl
waiting_below-none (l ∷ dealt) = omega (arith, waiting_below-cons 0 l dealt, one_below-no 0 l (omega arith), waiting_below-none dealt)

waiting_below-more : (n : ℕ) (dealt : List ℕ) → waiting_below (suc n) dealt ≡ waiting_below n dealt + waiting_of n dealt
waiting_below-more n [] = refl
waiting_below-more n (l ∷ dealt) =
    let one : waiting_of n (l ∷ dealt) ≡ one_at l n + waiting_of n dealt = sum_by-cons (λ k. one_at k n) l dealt in
    omega (arith, waiting_below-cons (suc n) l dealt, waiting_below-cons n l dealt, one, one_below-more n l, waiting_below-more n dealt)

-- pieces that all went to lanes below n wait there
waiting_below-all : (n : ℕ) (dealt : List ℕ) → All (λ l. l < n) dealt → length dealt ≡ waiting_below n dealt
waiting_below-all n [] each = refl
waiting_below-all n (l ∷ dealt) each =
    omega (arith, waiting_below-cons n l dealt, one_below-yes n l (All-head (λ k. k < n) l dealt each), waiting_below-all n dealt (All-tail (λ k. k < n) l dealt each))

waiting_below-most : (n capacity : ℕ) (dealt : List ℕ) → ((lane : ℕ) → lane < n → waiting_of lane dealt ≤ capacity) → waiting_below n dealt ≤ n * capacity
waiting_below-most zero capacity dealt each = omega (arith, waiting_below-none dealt)
waiting_below-most (suc n) capacity dealt each =
    omega (arith, waiting_below-more n dealt, waiting_below-most n capacity dealt (λ lane less. each lane (omega arith)), each n (omega arith), suc-mul n capacity)

-- where no lane has more than the capacity, all have no more than so many times the capacity
pub waiting_in_all : (lanes capacity : ℕ) (dealt : List ℕ) (joined : ℕ) (waiting : List ℕ) → IsKept lanes capacity dealt joined waiting → length dealt - joined ≤ lanes * capacity
waiting_in_all lanes capacity dealt joined waiting kept =
    let left = drop joined dealt in
    let most = waiting_below-most lanes capacity left (λ lane less. omega (arith, kept.counted lane less, kept.window lane less)) in
    omega (arith, most, length-drop joined dealt, waiting_below-all lanes left (All-drop (λ l. l < lanes) joined dealt kept.of_lanes))
