-- The longest instance name at the front of a text.
use Rattle.std.proofs.Common.{◌≡◌, ℕ, suc, one-add, ◌+◌, ◌-◌, ◌*◌, ◌^◌, ◌<◌, ◌≤◌, List, [], ◌∷◌, ◌++◌, length, get_or, take, drop, refl, sym, ap, ◌∙◌, arith}
use Rattle.std.specs.List.{AllByRecursion}
use Rattle.std.proofs.lemmas.List.{length-take-le, take_more, take-append-le}
use Rattle.p21_text.specs.Spelling.{IsDigit, IsDigits, NotBefore, decimal_from}
use Rattle.p21_text.specs.Spelling as token
use Rattle.p21_text.specs.Tokens.{Front}
use Rattle.p21_text.specs.Runs.{IsRun}
use Rattle.p21_text.proofs.Splits.{cut}
use Rattle.p21_text.proofs.RunLemmas.{front_longest, run_longest, all_more}
use Rattle.p21_text.proofs.Shapes.{Shape, front_by, none_by}
use Rattle.p21_text.proofs.NumberLemmas.{digits_of, digits_all}
use Rattle.p21_text.proofs.Groups.{NameFront, only_name, tail_is}

decimal-append : (high : ℕ) (a b : List ℕ) → decimal_from high (a ++ b) ≡ decimal_from (decimal_from high a) b
decimal-append high [] b = refl
decimal-append high (x ∷ a) b = decimal-append (10 * high + (x - 48)) a b

-- one more digit
pub decimal_more : (ds : List ℕ) (i : ℕ) → i < length ds → decimal_from 0 (take (i + 1) ds) ≡ 10 * decimal_from 0 (take i ds) + (get_or ds i 0 - 48)
decimal_more ds i h = ap (decimal_from 0) (take_more ds i 0 h) ∙ decimal-append 0 (take i ds) (get_or ds i 0 ∷ [])

decimal_grows : (high : ℕ) (ds : List ℕ) → high ≤ decimal_from high ds
decimal_grows high [] = omega arith
decimal_grows high (b ∷ ds) = let more = decimal_grows (10 * high + (b - 48)) ds in omega arith

-- what a name says of the bytes after its `#`
name_parts : (tail front behind : List ℕ) → 35 ∷ tail ≡ front ++ behind → Shape front behind → NameFront front behind
name_parts tail front behind e s = only_name 35 tail front behind e refl s

pub name_front : (tail : List ℕ) (n v : ℕ) → 0 < n → IsRun IsDigit tail n → v ≡ decimal_from 0 (take n tail) → v < 2 ^ 64 → Front (35 ∷ tail) (1 + n) (token.name v)
name_front tail n v some r is fits =
    rw one-add (front_by (35 ∷ tail) (suc n) (token.name v) (let f = r.fits in omega arith) (take n tail, refl, digits_of tail n some r.fits r.each, is, fits, r.stops) longest) where
      longest : (front behind : List ℕ) → 35 ∷ tail ≡ front ++ behind → Shape front behind → length front ≤ suc n
      longest front behind e s =
          let u = name_parts tail front behind e s in
          let rest : tail ≡ u.digits ++ behind = tail_is 35 35 tail u.digits front behind e u.spelled in
          let short : length u.digits ≤ n = run_longest IsDigit tail n r u.digits behind rest (digits_all u.digits u.are_digits) in
          omega (arith, ap length u.spelled)

digits_some : (s : List ℕ) → IsDigits s → length s ≤ 0 → ⊥
digits_some [] d h = d
digits_some (b ∷ s) d h = omega arith

pub name_none : (tail : List ℕ) (n : ℕ) → n ≡ 0 → IsRun IsDigit tail n → Front (35 ∷ tail) 0 token.bad
name_none tail n e r = none_by (35 ∷ tail) (λ h. cc) none_here where
  none_here : (front behind : List ℕ) → 35 ∷ tail ≡ front ++ behind → Shape front behind → ⊥
  none_here front behind g s =
      let u = name_parts tail front behind g s in
      let rest : tail ≡ u.digits ++ behind = tail_is 35 35 tail u.digits front behind g u.spelled in
      let short : length u.digits ≤ n = run_longest IsDigit tail n r u.digits behind rest (digits_all u.digits u.are_digits) in
      digits_some u.digits u.are_digits (omega arith)

-- the first i + 1 digits are too great already
pub name_over : (tail : List ℕ) (i : ℕ) → i < length tail → AllByRecursion IsDigit (take i tail) → IsDigit (get_or tail i 0) → 2 ^ 64 ≤ 10 * decimal_from 0 (take i tail) + (get_or tail i 0 - 48) → Front (35 ∷ tail) 0 token.bad
name_over tail i h each here over = none_by (35 ∷ tail) (λ k. cc) none_here where
  none_here : (front behind : List ℕ) → 35 ∷ tail ≡ front ++ behind → Shape front behind → ⊥
  none_here front behind g s =
      let u = name_parts tail front behind g s in
      let ds = u.digits in
      let rest : tail ≡ ds ++ behind = tail_is 35 35 tail ds front behind g u.spelled in
      let long : length (take (i + 1) tail) ≤ length ds
      = front_longest IsDigit ds behind (take (i + 1) tail) (drop (i + 1) tail) (sym rest ∙ cut tail (i + 1)) (all_more IsDigit tail i h each here) u.stops in
      let inside : i + 1 ≤ length ds = omega (arith, length-take-le (i + 1) tail (omega arith)) in
      let same : take (i + 1) tail ≡ take (i + 1) ds = ap (take (i + 1)) rest ∙ take-append-le (i + 1) ds behind inside in
      let whole : decimal_from 0 ds ≡ decimal_from (decimal_from 0 (take (i + 1) ds)) (drop (i + 1) ds) = ap (decimal_from 0) (cut ds (i + 1)) ∙ decimal-append 0 (take (i + 1) ds) (drop (i + 1) ds) in
      let grows = decimal_grows (decimal_from 0 (take (i + 1) ds)) (drop (i + 1) ds) in
      let fits = u.fits in
      omega (arith, decimal_more tail i h, ap (decimal_from 0) same)
