-- The parts of a number, and its digits without zeros.
use Rattle.std.proofs.Common.{◌≡◌, ⊎_elim, ℕ, ◌+◌, ◌-◌, ◌*◌, ◌<◌, ◌≤◌, Bool, true, false, cond, List, [], ◌∷◌, ◌++◌, length, take, get_or, refl, sym, ap, ◌∙◌, append_assoc, arith}
use Rattle.std.specs.Prelude.{nat_eq, ◌==◌, ◌||◌}
use Rattle.std.proofs.lemmas.Bool.{cases_eq, eq-eqb, eqb-true, ne_eqb}
use Rattle.std.proofs.lemmas.List.{append-nil, take_all, take_more}
use Rattle.p21_text.specs.Spelling.{decimal_from}
use Rattle.p21_rules.specs.Number.{before_first, behind_first, before_zeros, behind_zeros, in_front, scaled, signed, unsigned}
use Rattle.p21_rules.specs.Code.{bytes_code, number_code, value_code}
use Rattle.p21_rules.specs.Value.{number}

-- ---- up to a byte, and after it

module _ (c : ℕ) where
  before_found : (b : ℕ) (bs : List ℕ) → b ≡ c → before_first c (b ∷ bs) ≡ []
  before_found b bs e = ap (λ t. cond t [] (b ∷ before_first c bs)) (eq-eqb b c e)

  before_other : (b : ℕ) (bs : List ℕ) → (b ≡ c → ⊥) → before_first c (b ∷ bs) ≡ b ∷ before_first c bs
  before_other b bs n = ap (λ t. cond t [] (b ∷ before_first c bs)) (ne_eqb b c n)

  behind_found : (b : ℕ) (bs : List ℕ) → b ≡ c → behind_first c (b ∷ bs) ≡ bs
  behind_found b bs e = ap (λ t. cond t bs (behind_first c bs)) (eq-eqb b c e)

  behind_other : (b : ℕ) (bs : List ℕ) → (b ≡ c → ⊥) → behind_first c (b ∷ bs) ≡ behind_first c bs
  behind_other b bs n = ap (λ t. cond t bs (behind_first c bs)) (ne_eqb b c n)

  -- the parts are no longer than the whole
  pub parts_within : (s : List ℕ) → length (before_first c s) + length (behind_first c s) ≤ length s
  parts_within [] = omega arith
  parts_within (b ∷ bs) =
      let rest = parts_within bs in
      ⊎_elim
      (λ (e : b ≡ c). let f = before_found b bs e in let g = behind_found b bs e in let i = ap length f in let j = ap length g in omega arith)
      (λ (n : b ≡ c → ⊥). let f = before_other b bs n in let g = behind_other b bs n in let i = ap length f in let j = ap length g in omega arith)
      (cases_eq b c)

-- ---- digits

-- the value of more digits is no less
pub decimal_grows : (h : ℕ) (ds : List ℕ) → h ≤ decimal_from h ds
decimal_grows h [] = omega arith
decimal_grows h (d ∷ ds) = let more = decimal_grows (10 * h + (d - 48)) ds in omega arith

-- ---- zeros in front

pub behind_zeros_both : (xs ys : List ℕ) (z : ℕ) (zs : List ℕ) → behind_zeros xs ≡ z ∷ zs → behind_zeros (xs ++ ys) ≡ z ∷ zs ++ ys
behind_zeros_both [] ys z zs e = cc
behind_zeros_both (x ∷ xs) ys z zs e =
    ⊎_elim
    (λ (h : x ≡ 48).
    let t = eq-eqb x 48 h in
    ap (λ b. cond b (behind_zeros (xs ++ ys)) (x ∷ xs ++ ys)) t ∙ behind_zeros_both xs ys z zs (sym (ap (λ b. cond b (behind_zeros xs) (x ∷ xs)) t) ∙ e))
    (λ (n : x ≡ 48 → ⊥).
    let t = ne_eqb x 48 n in
    ap (λ b. cond b (behind_zeros (xs ++ ys)) (x ∷ xs ++ ys)) t ∙ ap (λ l. l ++ ys) (sym (ap (λ b. cond b (behind_zeros xs) (x ∷ xs)) t) ∙ e))
    (cases_eq x 48)

pub behind_zeros_none : (xs ys : List ℕ) → behind_zeros xs ≡ [] → behind_zeros (xs ++ ys) ≡ behind_zeros ys
behind_zeros_none [] ys e = refl
behind_zeros_none (x ∷ xs) ys e =
    ⊎_elim
    (λ (h : x ≡ 48).
    let t = eq-eqb x 48 h in
    ap (λ b. cond b (behind_zeros (xs ++ ys)) (x ∷ xs ++ ys)) t ∙ behind_zeros_none xs ys (sym (ap (λ b. cond b (behind_zeros xs) (x ∷ xs)) t) ∙ e))
    (λ (n : x ≡ 48 → ⊥).
    let t = ne_eqb x 48 n in
    let both : x ∷ xs ≡ [] = sym (ap (λ b. cond b (behind_zeros xs) (x ∷ xs)) t) ∙ e in cc)
    (cases_eq x 48)

-- ---- zeros after it

pub before_zeros_both : (xs ys : List ℕ) (z : ℕ) (zs : List ℕ) → before_zeros ys ≡ z ∷ zs → before_zeros (xs ++ ys) ≡ xs ++ z ∷ zs
before_zeros_both [] ys z zs e = e
before_zeros_both (x ∷ []) ys z zs e = ap (in_front x) e
before_zeros_both (x ∷ w ∷ xs) ys z zs e = ap (in_front x) (before_zeros_both (w ∷ xs) ys z zs e)

pub before_zeros_none : (xs ys : List ℕ) → before_zeros ys ≡ [] → before_zeros (xs ++ ys) ≡ before_zeros xs
before_zeros_none [] ys e = e
before_zeros_none (x ∷ xs) ys e = ap (in_front x) (before_zeros_none xs ys e)

-- a last digit that is 0 says nothing, and one that is not ends the digits
pub zero_last : (xs : List ℕ) (b : ℕ) → b ≡ 48 → before_zeros (xs ++ b ∷ []) ≡ before_zeros xs
zero_last xs b e = before_zeros_none xs (b ∷ []) (ap (λ t. cond t [] (b ∷ [])) (eq-eqb b 48 e))

pub other_last : (xs : List ℕ) (b : ℕ) → (b ≡ 48 → ⊥) → before_zeros (xs ++ b ∷ []) ≡ xs ++ b ∷ []
other_last xs b n = before_zeros_both xs (b ∷ []) b [] (ap (λ t. cond t [] (b ∷ [])) (ne_eqb b 48 n))

module _ (s : List ℕ) (some : length s ≡ 0 → ⊥) where
  last_more : s ≡ take (length s - 1) s ++ get_or s (length s - 1) 0 ∷ []
  last_more = let all : length s - 1 + 1 ≡ length s = omega arith in sym (take_all (length s) s (omega arith)) ∙ ap (λ k. take k s) (sym all) ∙ take_more s (length s - 1) 0 (omega arith)

  pub last_zero : get_or s (length s - 1) 0 ≡ 48 → before_zeros (take (length s - 1) s) ≡ before_zeros s
  last_zero e = sym (ap before_zeros last_more ∙ zero_last (take (length s - 1) s) (get_or s (length s - 1) 0) e)

  pub last_other : (get_or s (length s - 1) 0 ≡ 48 → ⊥) → s ≡ before_zeros s
  last_other n = last_more ∙ sym (other_last (take (length s - 1) s) (get_or s (length s - 1) 0) n) ∙ ap before_zeros (sym last_more)

-- ---- digits before the point and after it

empty : (xs : List ℕ) → nat_eq (length xs) 0 ≡ true → xs ≡ []
empty [] t = refl
empty (x ∷ xs) t = let e = eqb-true (length (x ∷ xs)) 0 t in absurd (omega arith)

module _ (xs ys whole fraction : List ℕ) where
  pub fraction_left : whole ≡ behind_zeros xs → nat_eq (length whole) 0 ≡ true → fraction ≡ behind_zeros ys → whole ++ fraction ≡ behind_zeros (xs ++ ys)
  fraction_left e t f = ap (λ l. l ++ fraction) (empty whole t) ∙ f ∙ sym (behind_zeros_none xs ys (sym e ∙ empty whole t))

  pub whole_left : fraction ≡ before_zeros ys → nat_eq (length fraction) 0 ≡ true → whole ≡ before_zeros xs → whole ++ fraction ≡ before_zeros (xs ++ ys)
  whole_left e t f = ap (λ l. whole ++ l) (empty fraction t) ∙ append-nil whole ∙ f ∙ sym (before_zeros_none xs ys (sym e ∙ empty fraction t))

pub front_left : (xs ys whole : List ℕ) → whole ≡ behind_zeros xs → nat_eq (length whole) 0 ≡ false → whole ++ ys ≡ behind_zeros (xs ++ ys)
front_left xs ys [] e t = cc
front_left xs ys (z ∷ zs) e t = sym (behind_zeros_both xs ys z zs (sym e))

pub back_left : (xs ys fraction : List ℕ) → fraction ≡ before_zeros ys → nat_eq (length fraction) 0 ≡ false → xs ++ fraction ≡ before_zeros (xs ++ ys)
back_left xs ys [] e t = cc
back_left xs ys (z ∷ zs) e t = sym (before_zeros_both xs ys z zs (sym e))

-- ---- as bytes

scaled_some : (minus : Bool) (ds : List ℕ) (up down : ℕ) → nat_eq (length ds) 0 ≡ false → scaled minus ds up down ≡ number (signed minus ds) (up - down) (down - up)
scaled_some minus [] up down t = cc
scaled_some minus (d ∷ ds) up down t = refl

pub scaled_pushed : (minus : Bool) (ds : List ℕ) (up down : ℕ) (old tag digits first new : List ℕ) → nat_eq (length ds) 0 ≡ false → tag ≡ old ++ 1 ∷ [] → digits ≡ tag ++ bytes_code (signed minus ds) → first ≡ digits ++ number_code (up - down) → new ≡ first ++ number_code (down - up) → new ≡ old ++ value_code (scaled minus ds up down)
scaled_pushed minus ds up down old tag digits first new t a b c d =
    let bytes = bytes_code (signed minus ds) in
    let over = number_code (up - down) in
    let under = number_code (down - up) in
    let code : new ≡ old ++ 1 ∷ (bytes ++ (over ++ under)) =
    d
    ∙ ap (λ l. l ++ under) c
    ∙ append_assoc digits over under
    ∙ ap (λ l. l ++ (over ++ under)) b
    ∙ append_assoc tag bytes (over ++ under)
    ∙ ap (λ l. l ++ (bytes ++ (over ++ under))) a
    ∙ append_assoc old (1 ∷ []) (bytes ++ (over ++ under)) in
    code ∙ ap (λ v. old ++ value_code v) (sym (scaled_some minus ds up down t))

-- without a sign there is no more than with it
pub unsigned_within : (s : List ℕ) → length (unsigned s) ≤ length s
unsigned_within [] = omega arith
unsigned_within (b ∷ bs) = elim (b == 43 || b == 45) as (λ t. length (cond t bs (b ∷ bs)) ≤ length (b ∷ bs)) [ true ↦ omega arith | false ↦ omega arith ]

-- a real has no more digits than bytes
pub digits_within : (text mantissa whole fraction digits : List ℕ) (n : ℕ) → length text < n → mantissa ≡ before_first 69 text → whole ≡ before_first 46 mantissa → fraction ≡ behind_first 46 mantissa → digits ≡ unsigned whole → length digits + length fraction < n
digits_within text mantissa whole fraction digits n less m w f d =
    let outer = parts_within 69 text in
    let inner = parts_within 46 mantissa in
    let sign = unsigned_within whole in
    let a = ap length m in
    let b = ap length w in
    let e = ap length f in
    let g = ap length d in
    omega arith

-- there are no more of them than before
pub before_zeros_within : (ds : List ℕ) → length (before_zeros ds) ≤ length ds
before_zeros_within [] = omega arith
before_zeros_within (d ∷ ds) = let rest = before_zeros_within ds in let one = in_front_within d (before_zeros ds) in omega arith
  where
    in_front_within : (b : ℕ) (bs : List ℕ) → length (in_front b bs) ≤ length bs + 1
    in_front_within b [] =
        ⊎_elim
        (λ (e : b ≡ 48). let l = ap length (ap (λ t. cond t [] (b ∷ [])) (eq-eqb b 48 e)) in omega arith)
        (λ (n : b ≡ 48 → ⊥). let l = ap length (ap (λ t. cond t [] (b ∷ [])) (ne_eqb b 48 n)) in omega arith)
        (cases_eq b 48)
    in_front_within b (c ∷ cs) = omega arith
