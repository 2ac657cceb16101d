-- The longest integer, fraction and real at the front of a text.
use Rattle.std.proofs.Common.{◌≡◌, ℕ, zero, suc, zero-le, one-add, ◌+◌, ◌<◌, ◌≤◌, ◌⊎◌, inl, inr, Option, Some, None, MatchOption, List, [], ◌∷◌, ◌++◌, length, get_or, take, drop, refl, sym, ap, ◌∙◌, subst, arith, append_assoc}
use Rattle.std.specs.List.{AllByRecursion}
use Rattle.std.proofs.lemmas.List.{append-nil, length-append, length-drop, length-take-le, take_more, drop_more}
use Rattle.std.proofs.Math.Seq.{take-add}
use Rattle.p21_text.specs.Spelling.{IsDigit, IsDigits, IsSign, IsInt, IsReal, IsExponent, NotBefore}
use Rattle.p21_text.specs.Spelling as token
use Rattle.p21_text.specs.Tokens.{Front}
use Rattle.p21_text.specs.Runs.{IsRun, IsNumberByte, FirstIs}
use Rattle.p21_text.specs.Fronts.{IntIs, IsFraction, LongestOf, NoFrontIs}
use Rattle.p21_text.proofs.Splits.{cut, drop_front}
use Rattle.p21_text.proofs.RunLemmas.{front_longest, run_longest, run_exact}
use Rattle.p21_text.proofs.Shapes.{Shape, front_by, none_by, first_front, not_nil}
use Rattle.p21_text.proofs.Groups.{only_number}

abbrev pub IsPlusMinus : ℕ → Type 0
IsPlusMinus b = (b ≡ 43) ⊎ (b ≡ 45)

-- an integer with a sign or without
data Signed (s : List ℕ) : Type 0 where
  signed : (b : ℕ) (digits : List ℕ) → s ≡ b ∷ digits → IsPlusMinus b → IsDigits digits → Signed s
  plain : IsDigits s → Signed s

signed_of : (s sign digits : List ℕ) → s ≡ sign ++ digits → IsSign sign → IsDigits digits → Signed s
signed_of s sign digits e (inl k) d = plain (rw (e, k) d)
signed_of s sign digits e (inr (inl k)) d = signed 43 digits (rw (e, k) refl) (inl refl) d
signed_of s sign digits e (inr (inr k)) d = signed 45 digits (rw (e, k) refl) (inr refl) d

int_cases : (s : List ℕ) → IsInt s → Signed s
int_cases s i = signed_of s i.sign i.digits i.spelled i.is_sign i.are_digits

pub digits_all : (s : List ℕ) → IsDigits s → AllByRecursion IsDigit s
digits_all [] d = absurd d
digits_all (b ∷ s) d = d

digits_first : (s : List ℕ) → IsDigits s → FirstIs IsDigit s
digits_first [] d = d
digits_first (b ∷ s) d = d.0

-- a first Digit is no sign
apart : (a b : List ℕ) (x : ℕ) (ds c d : List ℕ) → a ++ b ≡ c ++ d → FirstIs IsDigit a → c ≡ x ∷ ds → IsPlusMinus x → ⊥
apart [] b x ds c d e f k p = absurd f
apart (y ∷ a) b x ds c d e f k p =
    let whole : y ∷ (a ++ b) ≡ x ∷ (ds ++ d) = e ∙ ap (λ t. t ++ d) k in
    let same : y ≡ x = cc in
    omega arith

digits_longest : (a b c d : List ℕ) → a ++ b ≡ c ++ d → IsDigits c → NotBefore IsDigit b → length c ≤ length a
digits_longest a b c d e k stops = front_longest IsDigit a b c d e (digits_all c k) stops

by_signs : (a b c d : List ℕ) → a ++ b ≡ c ++ d → Signed a → Signed c → NotBefore IsDigit b → length c ≤ length a
by_signs a b c d e (signed x xs f p k) (signed y ys g q l) stops =
    let whole : x ∷ (xs ++ b) ≡ y ∷ (ys ++ d) = ap (λ t. t ++ b) (sym f) ∙ e ∙ ap (λ t. t ++ d) g in
    let tails : xs ++ b ≡ ys ++ d = cc in
    let shorter : length ys ≤ length xs = digits_longest xs b ys d tails l stops in
    omega (arith, ap length f, ap length g)
by_signs a b c d e (signed x xs f p k) (plain l) stops = absurd (apart c d x xs a b (sym e) (digits_first c l) f p)
by_signs a b c d e (plain k) (signed y ys g q l) stops = absurd (apart a b y ys c d e (digits_first a k) g q)
by_signs a b c d e (plain k) (plain l) stops = digits_longest a b c d e l stops

-- of two integers at one front, the one after which no Digit stands is the longer
int_front_longest : (a b c d : List ℕ) → a ++ b ≡ c ++ d → IsInt a → IsInt c → NotBefore IsDigit b → length c ≤ length a
int_front_longest a b c d e i j stops = by_signs a b c d e (int_cases a i) (int_cases c j) stops

pub int_longest : (text : List ℕ) (n : ℕ) → IntIs text n → (front behind : List ℕ) → text ≡ front ++ behind → IsInt front → length front ≤ n
int_longest text n i front behind e j =
    subst (λ k. length front ≤ k) (length-take-le n text i.fits) (int_front_longest (take n text) (drop n text) front behind (sym (cut text n) ∙ e) i.is_int j i.stops)

pub int_exact : (text : List ℕ) (n : ℕ) → IntIs text n → (front behind : List ℕ) → text ≡ front ++ behind → IsInt front → NotBefore IsDigit behind → length front ≡ n
int_exact text n i front behind e j stops =
    let long : length front ≤ n = int_longest text n i front behind e j in
    let short : length (take n text) ≤ length front = int_front_longest front behind (take n text) (drop n text) (sym e ∙ cut text n) j i.is_int stops in
    omega (arith, length-take-le n text i.fits)

pub digits_of : (text : List ℕ) (n : ℕ) → 0 < n → n ≤ length text → AllByRecursion IsDigit (take n text) → IsDigits (take n text)
digits_of text zero some fits each = absurd (omega arith)
digits_of [] (suc n) some fits each = absurd (omega arith)
digits_of (b ∷ text) (suc n) some fits each = each

pub signed_int : (text tail : List ℕ) (b n : ℕ) → text ≡ b ∷ tail → IsPlusMinus b → 0 < n → IsRun IsDigit tail n → IntIs text (1 + n)
signed_int text tail b n e p some r =
    rw (e, one-add) (record {
      fits = (let fits = r.fits in omega arith);
      is_int = record { sign = b ∷ []; digits = take n tail; spelled = refl; is_sign = sign_is b p; are_digits = digits_of tail n some r.fits r.each };
      stops = r.stops;
    }) where
      sign_is : (b : ℕ) → IsPlusMinus b → IsSign (b ∷ [])
      sign_is b (inl h) = inr (inl (ap (λ x. x ∷ []) h))
      sign_is b (inr h) = inr (inr (ap (λ x. x ∷ []) h))

pub plain_int : (text : List ℕ) (n : ℕ) → 0 < n → IsRun IsDigit text n → IntIs text n
plain_int text n some r = record {
  fits = r.fits;
  is_int = record { sign = []; digits = take n text; spelled = refl; is_sign = inl refl; are_digits = digits_of text n some r.fits r.each };
  stops = r.stops;
}

pub no_plain_int : (text : List ℕ) → (FirstIs IsPlusMinus text → ⊥) → (FirstIs IsDigit text → ⊥) → NoFrontIs IsInt text
no_plain_int text no_sign no_digit front behind f i = by_sign (int_cases front i) where
  by_sign : Signed front → ⊥
  by_sign (signed x xs g q d) = no_sign (first_front IsPlusMinus text front behind f (rw g q))
  by_sign (plain d) = no_digit (first_front IsDigit text front behind f (digits_first front d))

first_not : (P : ℕ → Type 0) (text tail : List ℕ) (b : ℕ) → text ≡ b ∷ tail → ¬ (P b) → FirstIs P text → ⊥
first_not P [] tail b e none f = f
first_not P (x ∷ text) tail b e none f = let same : b ≡ x = cc in none (subst P (sym same) f)

-- what the digits at the front are, where no sign stands
pub plain_or_none : (text tail : List ℕ) (b : ℕ) → text ≡ b ∷ tail → ¬ (IsPlusMinus b) → (r : Option ℕ) → MatchOption r (FirstIs IsDigit text → ⊥) (λ n. (0 < n) × IsRun IsDigit text n)
    → MatchOption r (NoFrontIs IsInt text) (λ n. IntIs text n)
plain_or_none text tail b e none None h = no_plain_int text (first_not IsPlusMinus text tail b e none) h
plain_or_none text tail b e none (Some n) h = plain_int text n h.0 h.1

pub exponent : (text tail : List ℕ) (b n : ℕ) → text ≡ b ∷ tail → b ≡ 69 → IntIs tail n → LongestOf IsExponent text (1 + n)
exponent text tail b n e is i =
    rw (e, one-add) (record { fits = (let fits = i.fits in omega arith); holds = (is, i.is_int); longest = λ front behind f x. shorter front behind f x }) where
      shorter : (front behind : List ℕ) → b ∷ tail ≡ front ++ behind → IsExponent front → length front ≤ suc n
      shorter [] behind f x = zero-le
      shorter (c ∷ front) behind f x = (let tails : tail ≡ front ++ behind = cc in let short = int_longest tail n i front behind tails x.1 in omega arith)

module _ (text : List ℕ) (n m : ℕ) (r : IsRun IsDigit text n) (x : LongestOf IsExponent (drop n text) m) where
  fraction_longest : (front behind digits exponent : List ℕ) → text ≡ front ++ behind → front ≡ digits ++ exponent → AllByRecursion IsDigit digits → IsExponent exponent → length front ≤ n + m
  fraction_longest front behind digits [] e f each h =
      let same : front ≡ digits = f ∙ append-nil digits in
      let short : length digits ≤ n = run_longest IsDigit text n r digits behind (e ∙ ap (λ t. t ++ behind) same) each in
      omega (arith, ap length same)
  fraction_longest front behind digits (b ∷ rest) e f each h =
      let whole : text ≡ digits ++ ((b ∷ rest) ++ behind) = e ∙ ap (λ t. t ++ behind) f ∙ append_assoc digits (b ∷ rest) behind in
      let exact : length digits ≡ n = run_exact IsDigit text n r digits ((b ∷ rest) ++ behind) whole each (λ k. let is = h.0 in omega arith) in
      let tails : drop n text ≡ (b ∷ rest) ++ behind = ap (λ k. drop k text) (sym exact) ∙ drop_front text digits ((b ∷ rest) ++ behind) whole in
      let short : length (b ∷ rest) ≤ m = x.longest (b ∷ rest) behind tails h in
      omega (arith, ap length f, length-append digits (b ∷ rest))

  pub fraction : LongestOf IsFraction text (n + m)
  fraction = record {
    fits = (let one = r.fits in let two = x.fits in omega (arith, length-drop n text));
    holds = record { digits = take n text; exponent = take m (drop n text); spelled = take-add n m text; are_digits = r.each; is_exponent = x.holds };
    longest = λ front behind e f. fraction_longest front behind f.digits f.exponent e f.spelled f.are_digits f.is_exponent;
  }

by_first : (text front behind : List ℕ) → FirstIs IsNumberByte text → text ≡ front ++ behind → Shape front behind → IsInt front ⊎ IsReal front
by_first [] front behind f e s = absurd f
by_first (b ∷ tail) front behind f e s = only_number b tail front behind e f s

-- a real's integer, and its point and fraction after it
real_parts : (text front behind : List ℕ) (r : IsReal front) → text ≡ front ++ behind → text ≡ r.whole ++ (46 ∷ ((r.fraction ++ r.exponent) ++ behind))
real_parts text front behind r e =
    e ∙ ap (λ t. t ++ behind) r.spelled ∙ append_assoc r.whole (46 ∷ (r.fraction ++ r.exponent)) behind

real_whole : (text front behind : List ℕ) (n : ℕ) → IntIs text n → (r : IsReal front) → text ≡ front ++ behind → drop n text ≡ 46 ∷ ((r.fraction ++ r.exponent) ++ behind)
real_whole text front behind n i r e =
    let parts = real_parts text front behind r e in
    let exact : length r.whole ≡ n = int_exact text n i r.whole (46 ∷ ((r.fraction ++ r.exponent) ++ behind)) parts r.is_whole (λ k. omega arith) in
    ap (λ k. drop k text) (sym exact) ∙ drop_front text r.whole (46 ∷ ((r.fraction ++ r.exponent) ++ behind)) parts

pub number_none : (text : List ℕ) → FirstIs IsNumberByte text → NoFrontIs IsInt text → Front text 0 token.bad
number_none text f none = none_by text (not_nil IsNumberByte text f) (λ front behind e s. by_kind front behind e (by_first text front behind f e s)) where
  by_kind : (front behind : List ℕ) → text ≡ front ++ behind → IsInt front ⊎ IsReal front → ⊥
  by_kind front behind e (inl i) = none front behind e i
  by_kind front behind e (inr r) = none r.whole (46 ∷ ((r.fraction ++ r.exponent) ++ behind)) (real_parts text front behind r e) r.is_whole

pub number_int : (text : List ℕ) (n : ℕ) → FirstIs IsNumberByte text → IntIs text n → NotBefore (λ b. b ≡ 46) (drop n text) → Front text n (token.int (take n text))
number_int text n f i stops = front_by text n (token.int (take n text)) i.fits (refl, i.is_int) (λ front behind e s. by_kind front behind e (by_first text front behind f e s)) where
  by_kind : (front behind : List ℕ) → text ≡ front ++ behind → IsInt front ⊎ IsReal front → length front ≤ n
  by_kind front behind e (inl j) = int_longest text n i front behind e j
  by_kind front behind e (inr r) = absurd ((rw (real_whole text front behind n i r e) at stops) refl)

pub number_real : (text : List ℕ) (n m : ℕ) → FirstIs IsNumberByte text → IntIs text n → n < length text → get_or text n 0 ≡ 46 → LongestOf IsFraction (drop (n + 1) text) m → Front text (n + 1 + m) (token.real (take (n + 1 + m) text))
number_real text n m f i h point x =
    front_by text (n + 1 + m) (token.real (take (n + 1 + m) text)) fits (refl, real) (λ front behind e s. by_kind front behind e (by_first text front behind f e s)) where
      fits : n + 1 + m ≤ length text
      fits = (let some = x.fits in omega (arith, length-drop (n + 1) text))

      behind_whole : drop n text ≡ 46 ∷ drop (n + 1) text
      behind_whole = drop_more text n 0 h ∙ ap (λ b. b ∷ drop (n + 1) text) point

      spelled : take (n + 1 + m) text ≡ take n text ++ (46 ∷ (x.holds.digits ++ x.holds.exponent))
      spelled =
          take-add (n + 1) m text ∙ ap (λ t. t ++ take m (drop (n + 1) text)) (take_more text n 0 h ∙ ap (λ b. take n text ++ b ∷ []) point) ∙ append_assoc (take n text) (46 ∷ []) (take m (drop (n + 1) text)) ∙ ap (λ t. take n text ++ (46 ∷ t)) x.holds.spelled

      real : IsReal (take (n + 1 + m) text)
      real = record { whole = take n text; fraction = x.holds.digits; exponent = x.holds.exponent; spelled = spelled; is_whole = i.is_int; is_fraction = x.holds.are_digits; is_exponent = x.holds.is_exponent }

      by_kind : (front behind : List ℕ) → text ≡ front ++ behind → IsInt front ⊎ IsReal front → length front ≤ n + 1 + m
      by_kind front behind e (inl j) = (let short = int_longest text n i front behind e j in omega arith)
      by_kind front behind e (inr r) =
          let parts = real_parts text front behind r e in
          let exact : length r.whole ≡ n = int_exact text n i r.whole (46 ∷ ((r.fraction ++ r.exponent) ++ behind)) parts r.is_whole (λ k. omega arith) in
          let both : 46 ∷ drop (n + 1) text ≡ 46 ∷ ((r.fraction ++ r.exponent) ++ behind) = sym behind_whole ∙ real_whole text front behind n i r e in
          let rest : drop (n + 1) text ≡ (r.fraction ++ r.exponent) ++ behind = cc in
          let short : length (r.fraction ++ r.exponent) ≤ m
          = x.longest (r.fraction ++ r.exponent) behind rest (record { digits = r.fraction; exponent = r.exponent; spelled = refl; are_digits = r.is_fraction; is_exponent = r.is_exponent }) in
          omega (arith, ap length r.spelled, length-append r.whole (46 ∷ (r.fraction ++ r.exponent)))
