-- Integers and reals as JSON writes them are numbers of JSON.
use Rattle.std.proofs.Common.{◌≡◌, ◌≢◌, ◌⊎◌, ◌+◌, ℕ, Bool, true, false, cond, List, [], ◌∷◌, ◌++◌, Option, Some, None, length, drop, refl, sym, ap, subst, ◌∙◌, inl, inr, ⊎_elim, arith}
use Rattle.std.specs.Prelude.{◌==◌, ◌&&◌, ◌||◌, not, if◌then◌else◌, option_and_then}
use Rattle.std.specs.List.{AllByRecursion, prefix_len}
use Rattle.std.specs.Char.{is_ascii_digit}
use Rattle.std.specs.Str.{IsAscii}
use Rattle.std.proofs.lemmas.Bool.{false≢true, le-leb, eq-eqb, eqb-true, eqb-false}
use Rattle.std.proofs.lemmas.Bool.Decides.{nat_tests}
use Rattle.std.proofs.lemmas.List.{append_assoc, append-nil}
use Rattle.std.proofs.Math.Seq.{drop-append_seam}
use Rattle.std.proofs.lemmas.Str.{encodes-IsAscii, IsAscii-append}
use Rattle.std.proofs.lemmas.Str.Ascii.{IsAscii-cons, IsAscii-nil}
use Rattle.json.specs.Word.{after_number, after_minus, after_whole, after_digits, after_fraction, after_exponent, after_sign}
use Rattle.json.specs.Print.{IsNumber}
use Rattle.p21_text.specs.Spelling.{IsDigit, IsDigits, IsSign, IsInt, IsReal, IsExponent}
use Rattle.p21_json.specs.Numerals.{begins_with_digit, without_zeros, with_fraction, numeral_of}
use Rattle.p21_json.specs.Spelled.{text_of}

-- ---- digits

pub digit_test : (b : ℕ) → IsDigit b → is_ascii_digit b ≡ true
digit_test b h = let p = le-leb 48 b h.0 in let q = le-leb b 57 h.1 in grind (arith, nat_tests)

differs : (b c : ℕ) → b ≢ c → (b == c) ≡ false
differs b c h = grind (arith, nat_tests)

is_zero : (b : ℕ) → (b ≡ 48) ⊎ (b ≢ 48)
is_zero b = by_test (b == 48) refl where
  by_test : (t : Bool) → (b == 48) ≡ t → (b ≡ 48) ⊎ (b ≢ 48)
  by_test true e = inl (eqb-true b 48 e)
  by_test false e = inr (eqb-false b 48 e)

-- digits without a zero in front that a further digit follows
pub data IsCore : List ℕ → Type 0 where
  zero : IsCore (48 ∷ [])
  others : {d : ℕ} {ds : List ℕ} → IsDigit d → d ≢ 48 → AllByRecursion IsDigit ds → IsCore (d ∷ ds)

kept : (b c : Bool) (x y : List ℕ) → c ≡ false → (if b && c then x else y) ≡ y
kept true true x y e = cc
kept true false x y e = refl
kept false c x y e = refl

first_kept : (b c : Bool) (x y : List ℕ) → b ≡ false → (if b && c then x else y) ≡ y
first_kept true c x y e = cc
first_kept false c x y e = refl

dropped : (b c : Bool) (x y : List ℕ) → b ≡ true → c ≡ true → (if b && c then x else y) ≡ x
dropped true true x y e f = refl
dropped true false x y e f = cc
dropped false c x y e f = cc

pub strip : (d : ℕ) (ds tail : List ℕ) → IsDigit d → AllByRecursion IsDigit ds → begins_with_digit tail ≡ false → (core : List ℕ) × IsCore core × (without_zeros (d ∷ (ds ++ tail)) ≡ core ++ tail)
strip d [] tail h hs stop =
    (d ∷ [], ⊎_elim (λ (z : d ≡ 48). subst (λ (x : ℕ). IsCore (x ∷ [])) (sym z) zero) (λ (n : d ≢ 48). others h n tt) (is_zero d), kept (d == 48) (begins_with_digit tail) (without_zeros tail) (d ∷ tail) stop)
strip d (e ∷ ds) tail h hs stop =
    let more = strip e ds tail hs.0 hs.1 stop in
    ⊎_elim
    (λ (z : d ≡ 48). (more.0, more.1, dropped (d == 48) (is_ascii_digit e) (without_zeros (e ∷ (ds ++ tail))) (d ∷ e ∷ (ds ++ tail)) (eq-eqb d 48 z) (digit_test e hs.0) ∙ more.2))
    (λ (n : d ≢ 48). (d ∷ e ∷ ds, others h n hs, first_kept (d == 48) (is_ascii_digit e) (without_zeros (e ∷ (ds ++ tail))) (d ∷ e ∷ (ds ++ tail)) (differs d 48 n)))
    (is_zero d)

-- ---- the point

pub fraction_past : (xs tail : List ℕ) → AllByRecursion (λ b. b ≢ 46) xs → with_fraction (xs ++ tail) ≡ xs ++ with_fraction tail
fraction_past [] tail h = refl
fraction_past (b ∷ xs) tail h =
    first_kept (b == 46) (not (begins_with_digit (xs ++ tail))) (46 ∷ 48 ∷ with_fraction (xs ++ tail)) (b ∷ with_fraction (xs ++ tail)) (differs b 46 h.0) ∙ ap (λ (t : List ℕ). b ∷ t) (fraction_past xs tail h.1)

no_point : (d : ℕ) → IsDigit d → d ≢ 46
no_point d h e = omega arith

pub no_points : (ds : List ℕ) → AllByRecursion IsDigit ds → AllByRecursion (λ b. b ≢ 46) ds
no_points [] h = tt
no_points (d ∷ ds) h = (no_point d h.0, no_points ds h.1)

pub core_digits : (core : List ℕ) → IsCore core → AllByRecursion IsDigit core
core_digits _ zero = ((omega arith, omega arith), tt)
core_digits _ (others h n hs) = (h, hs)

-- ---- the exponent

sign_points : (sign : List ℕ) → IsSign sign → AllByRecursion (λ b. b ≢ 46) sign
sign_points sign h =
    let P : List ℕ → Type 0 = λ l. AllByRecursion (λ b. b ≢ 46) l in
    ⊎_elim (λ (e : sign ≡ []). subst P (sym e) tt)
    (⊎_elim (λ (e : sign ≡ 43 ∷ []). subst P (sym e) (λ q. omega arith, tt)) (λ (e : sign ≡ 45 ∷ []). subst P (sym e) (λ q. omega arith, tt)))
    h

all_append : (P : ℕ → Type 0) (xs ys : List ℕ) → AllByRecursion P xs → AllByRecursion P ys → AllByRecursion P (xs ++ ys)
all_append P [] ys h k = k
all_append P (x ∷ xs) ys h k = (h.0, all_append P xs ys h.1 k)

digits_all : (ds : List ℕ) → IsDigits ds → AllByRecursion IsDigit ds
digits_all [] h = tt
digits_all (d ∷ ds) h = h

int_points : (v : List ℕ) → IsInt v → AllByRecursion (λ b. b ≢ 46) v
int_points v h = subst (λ (l : List ℕ). AllByRecursion (λ b. b ≢ 46) l) (sym h.spelled) (all_append (λ b. b ≢ 46) h.sign h.digits (sign_points h.sign h.is_sign) (no_points h.digits (digits_all h.digits h.are_digits)))

pub exponent_points : (e : List ℕ) → IsExponent e → AllByRecursion (λ b. b ≢ 46) e
exponent_points [] h = tt
exponent_points (b ∷ rest) h = ((λ q. let p = h.0 in omega arith), int_points rest h.1)

pub exponent_stops : (e : List ℕ) → IsExponent e → begins_with_digit e ≡ false
exponent_stops [] h = refl
exponent_stops (b ∷ rest) h = subst (λ (x : ℕ). is_ascii_digit x ≡ false) (sym h.0) refl

-- ---- numbers of JSON

past : (ds tail : List ℕ) → AllByRecursion IsDigit ds → begins_with_digit tail ≡ false → prefix_len is_ascii_digit (ds ++ tail) ≡ length ds
past [] [] h stop = refl
past [] (b ∷ tail) h stop = ap (λ (t : Bool). cond t (1 + prefix_len is_ascii_digit tail) 0) stop
past (d ∷ ds) tail h stop =
    ap (λ (t : Bool). cond t (1 + prefix_len is_ascii_digit (ds ++ tail)) 0) (digit_test d h.0) ∙ (let more = past ds tail h.1 stop in omega arith)

pub after_some : (d : ℕ) (ds tail : List ℕ) → IsDigit d → AllByRecursion IsDigit ds → begins_with_digit tail ≡ false → after_digits (d ∷ (ds ++ tail)) ≡ Some tail
after_some d ds tail h hs stop =
    let text = d ∷ (ds ++ tail) in
    let p : prefix_len is_ascii_digit text ≡ length (d ∷ ds) = past (d ∷ ds) tail (h, hs) stop in
    let q : (length (d ∷ ds) == 0) ≡ false = differs (length (d ∷ ds)) 0 (λ z. omega arith) in
    ap (λ (n : ℕ). cond (n == 0) None (Some (drop n text))) p ∙ ap (λ (t : Bool). cond t None (Some (drop (length (d ∷ ds)) text))) q ∙ ap (λ (l : List ℕ). Some l) (drop-append_seam (d ∷ ds) tail)

past_whole : (core rest : List ℕ) → IsCore core → begins_with_digit rest ≡ false → after_whole (core ++ rest) ≡ Some rest
past_whole _ rest zero stop = refl
past_whole _ rest (others {d} {ds} h n hs) stop =
    ap (λ (t : Bool). cond t (Some (ds ++ rest)) (after_digits (d ∷ (ds ++ rest)))) (differs d 48 n) ∙ after_some d ds rest h hs stop

no_minus : (core rest : List ℕ) → IsCore core → after_minus (core ++ rest) ≡ core ++ rest
no_minus _ rest zero = refl
no_minus _ rest (others {d} {ds} h n hs) =
    ap (λ (t : Bool). cond t (ds ++ rest) (d ∷ (ds ++ rest))) (differs d 45 (λ q. omega arith))

-- ---- the shape of a numeral

-- `-` or nothing, digits without a zero in front that a further digit follows, and what stands after them
pub record IsShape (v tail : List ℕ) : Type 0 where
  pub minus : List ℕ
  pub core : List ℕ
  pub is_minus : (minus ≡ []) ⊎ (minus ≡ 45 ∷ [])
  pub is_core : IsCore core
  pub numeral : numeral_of v ≡ minus ++ (core ++ with_fraction tail)

stripped : (d : ℕ) (ds tail : List ℕ) → IsDigit d → AllByRecursion IsDigit ds → begins_with_digit tail ≡ false → (core : List ℕ) × IsCore core × (with_fraction (without_zeros (d ∷ (ds ++ tail))) ≡ core ++ with_fraction tail)
stripped d ds tail h hs stop =
    let made = strip d ds tail h hs stop in
    (made.0, made.1, ap with_fraction made.2 ∙ fraction_past made.0 tail (no_points made.0 (core_digits made.0 made.1)))

unsigned : (d : ℕ) (rest : List ℕ) → IsDigit d → numeral_of (d ∷ rest) ≡ with_fraction (without_zeros (d ∷ rest))
unsigned d rest h =
    ap (λ (t : Bool). if t then 45 ∷ with_fraction (without_zeros rest) else with_fraction (without_zeros (if d == 43 then rest else d ∷ rest))) (differs d 45 (λ q. omega arith))
    ∙ ap (λ (t : Bool). with_fraction (without_zeros (if t then rest else d ∷ rest))) (differs d 43 (λ q. omega arith))

pub shape : (sign digits tail : List ℕ) → IsSign sign → IsDigits digits → begins_with_digit tail ≡ false → IsShape (sign ++ (digits ++ tail)) tail
shape sign [] tail h hs stop = absurd hs
shape sign (d ∷ ds) tail h hs stop =
    let made = stripped d ds tail hs.0 hs.1 stop in
    let P : List ℕ → Type 0 = λ s. IsShape (s ++ ((d ∷ ds) ++ tail)) tail in
    ⊎_elim (λ (e : sign ≡ []). subst P (sym e) (record { minus = []; core = made.0; is_minus = inl refl; is_core = made.1; numeral = unsigned d (ds ++ tail) hs.0 ∙ made.2 }))
    (⊎_elim (λ (e : sign ≡ 43 ∷ []). subst P (sym e) (record { minus = []; core = made.0; is_minus = inl refl; is_core = made.1; numeral = made.2 }))
    (λ (e : sign ≡ 45 ∷ []). subst P (sym e) (record { minus = 45 ∷ []; core = made.0; is_minus = inr refl; is_core = made.1; numeral = ap (λ (l : List ℕ). 45 ∷ l) made.2 })))
    h

pub int_shape : (v : List ℕ) → IsInt v → IsShape v []
int_shape v h =
    subst (λ (l : List ℕ). IsShape l []) (ap (λ (l : List ℕ). h.sign ++ l) (append-nil h.digits) ∙ sym h.spelled) (shape h.sign h.digits [] h.is_sign h.are_digits refl)

pub real_shape : (v : List ℕ) → (h : IsReal v) → IsShape v (46 ∷ (h.fraction ++ h.exponent))
real_shape v h =
    let tail = 46 ∷ (h.fraction ++ h.exponent) in
    let w = h.is_whole in
    subst (λ (l : List ℕ). IsShape l tail) (sym (append_assoc w.sign w.digits tail) ∙ ap (λ (l : List ℕ). l ++ tail) (sym w.spelled) ∙ sym h.spelled) (shape w.sign w.digits tail w.is_sign w.are_digits refl)

whole_exponent : (e : List ℕ) → IsExponent e → with_fraction e ≡ e
whole_exponent e h = ap with_fraction (sym (append-nil e)) ∙ fraction_past e [] (exponent_points e h) ∙ append-nil e

-- a point, a digit, and what stands after it
pub fraction_shape : (fraction e : List ℕ) → AllByRecursion IsDigit fraction → IsExponent e → (d : ℕ) × (ds : List ℕ) × IsDigit d × AllByRecursion IsDigit ds × (with_fraction (46 ∷ (fraction ++ e)) ≡ 46 ∷ d ∷ (ds ++ e))
fraction_shape [] e h k =
    (48, [], (omega arith, omega arith), tt, ap (λ (t : Bool). if not t then 46 ∷ 48 ∷ with_fraction e else 46 ∷ with_fraction e) (exponent_stops e k) ∙ ap (λ (l : List ℕ). 46 ∷ 48 ∷ l) (whole_exponent e k))
fraction_shape (f ∷ fs) e h k =
    (f, fs, h.0, h.1, ap (λ (t : Bool). if not t then 46 ∷ 48 ∷ with_fraction (f ∷ (fs ++ e)) else 46 ∷ with_fraction (f ∷ (fs ++ e))) (digit_test f h.0) ∙ ap (λ (l : List ℕ). 46 ∷ l) (fraction_past (f ∷ fs) e (no_points (f ∷ fs) h) ∙ ap (λ (l : List ℕ). f ∷ (fs ++ l)) (whole_exponent e k)))

-- ---- numbers of JSON

past_front : (minus core rest : List ℕ) → (minus ≡ []) ⊎ (minus ≡ 45 ∷ []) → IsCore core → begins_with_digit rest ≡ false → after_whole (after_minus (minus ++ (core ++ rest))) ≡ Some rest
past_front minus core rest h k stop =
    let P : List ℕ → Type 0 = λ m. after_whole (after_minus (m ++ (core ++ rest))) ≡ Some rest in
    ⊎_elim (λ (e : minus ≡ []). subst P (sym e) (ap after_whole (no_minus core rest k) ∙ past_whole core rest k stop)) (λ (e : minus ≡ 45 ∷ []). subst P (sym e) (past_whole core rest k stop)) h

after_front : (minus core rest : List ℕ) → (minus ≡ []) ⊎ (minus ≡ 45 ∷ []) → IsCore core → begins_with_digit rest ≡ false → after_number (minus ++ (core ++ rest)) ≡ option_and_then after_exponent (after_fraction rest)
unfolding after_number
after_front minus core rest h k stop = ap (λ (o : Option (List ℕ)). option_and_then after_exponent (option_and_then after_fraction o)) (past_front minus core rest h k stop)

sign_past : (sign digits : List ℕ) → IsSign sign → IsDigits digits → after_digits (after_sign (sign ++ digits)) ≡ Some []
sign_past sign [] h hs = absurd hs
sign_past sign (d ∷ ds) h hs =
    let all : after_digits (d ∷ ds) ≡ Some [] = ap (λ (l : List ℕ). after_digits (d ∷ l)) (sym (append-nil ds)) ∙ after_some d ds [] hs.0 hs.1 refl in
    let P : List ℕ → Type 0 = λ s. after_digits (after_sign (s ++ (d ∷ ds))) ≡ Some [] in
    let plain : after_sign (d ∷ ds) ≡ d ∷ ds = ap (λ (t : Bool). cond (t || (d == 43)) ds (d ∷ ds)) (differs d 45 (λ q. omega arith)) ∙ ap (λ (t : Bool). cond t ds (d ∷ ds)) (differs d 43 (λ q. omega arith)) in
    ⊎_elim (λ (e : sign ≡ []). subst P (sym e) (ap after_digits plain ∙ all)) (⊎_elim (λ (e : sign ≡ 43 ∷ []). subst P (sym e) all) (λ (e : sign ≡ 45 ∷ []). subst P (sym e) all)) h

exponent_past : (e : List ℕ) → IsExponent e → after_exponent e ≡ Some []
exponent_past [] h = refl
exponent_past (b ∷ rest) h =
    let P : ℕ → Type 0 = λ x. after_exponent (x ∷ rest) ≡ Some [] in
    let i = h.1 in
    subst P (sym h.0) (ap (λ (l : List ℕ). after_digits (after_sign l)) i.spelled ∙ sign_past i.sign i.digits i.is_sign i.are_digits)

-- ---- ASCII

pub digits_ascii : (ds : List ℕ) → AllByRecursion IsDigit ds → IsAscii ds
digits_ascii [] h = IsAscii-nil
digits_ascii (d ∷ ds) h = IsAscii-cons d ds (let p = h.0.1 in omega arith) (digits_ascii ds h.1)

minus_ascii : (m : List ℕ) → (m ≡ []) ⊎ (m ≡ 45 ∷ []) → IsAscii m
minus_ascii m h = ⊎_elim (λ (e : m ≡ []). subst IsAscii (sym e) IsAscii-nil) (λ (e : m ≡ 45 ∷ []). subst IsAscii (sym e) (IsAscii-cons 45 [] (omega arith) IsAscii-nil)) h

sign_ascii : (m : List ℕ) → IsSign m → IsAscii m
sign_ascii m h = ⊎_elim (λ (e : m ≡ []). subst IsAscii (sym e) IsAscii-nil) (⊎_elim (λ (e : m ≡ 43 ∷ []). subst IsAscii (sym e) (IsAscii-cons 43 [] (omega arith) IsAscii-nil)) (λ (e : m ≡ 45 ∷ []). subst IsAscii (sym e) (IsAscii-cons 45 [] (omega arith) IsAscii-nil))) h

int_ascii : (v : List ℕ) → IsInt v → IsAscii v
int_ascii v h = subst IsAscii (sym h.spelled) (IsAscii-append h.sign h.digits (sign_ascii h.sign h.is_sign) (digits_ascii h.digits (digits_all h.digits h.are_digits)))

exponent_ascii : (e : List ℕ) → IsExponent e → IsAscii e
exponent_ascii [] h = IsAscii-nil
exponent_ascii (b ∷ rest) h = IsAscii-cons b rest (let p = h.0 in omega arith) (int_ascii rest h.1)

-- ---- integers and reals

int_numeral : (v : List ℕ) → (h : IsShape v []) → numeral_of v ≡ h.minus ++ h.core
int_numeral v h = h.numeral ∙ ap (λ (l : List ℕ). h.minus ++ l) (append-nil h.core)

pub int_text : (v : List ℕ) → IsInt v → text_of (numeral_of v) ≡ numeral_of v
int_text v i =
    let h = int_shape v i in
    encodes-IsAscii (numeral_of v) (subst IsAscii (sym (int_numeral v h)) (IsAscii-append h.minus h.core (minus_ascii h.minus h.is_minus) (digits_ascii h.core (core_digits h.core h.is_core))))

pub int_number : (v : List ℕ) → IsInt v → IsNumber (text_of (numeral_of v))
int_number v i =
    let h = int_shape v i in
    ap after_number (int_text v i ∙ h.numeral) ∙ after_front h.minus h.core [] h.is_minus h.is_core refl

pub real_text : (v : List ℕ) → IsReal v → text_of (numeral_of v) ≡ numeral_of v
real_text v i =
    let h = real_shape v i in
    let f = fraction_shape i.fraction i.exponent i.is_fraction i.is_exponent in
    let tail = IsAscii-cons 46 (f.0 ∷ (f.1 ++ i.exponent)) (omega arith) (IsAscii-append (f.0 ∷ f.1) i.exponent (digits_ascii (f.0 ∷ f.1) (f.2, f.3)) (exponent_ascii i.exponent i.is_exponent)) in
    let behind = IsAscii-append h.core (46 ∷ f.0 ∷ (f.1 ++ i.exponent)) (digits_ascii h.core (core_digits h.core h.is_core)) tail in
    encodes-IsAscii (numeral_of v) (subst IsAscii (sym (h.numeral ∙ ap (λ (l : List ℕ). h.minus ++ (h.core ++ l)) f.4)) (IsAscii-append h.minus (h.core ++ 46 ∷ f.0 ∷ (f.1 ++ i.exponent)) (minus_ascii h.minus h.is_minus) behind))

pub real_number : (v : List ℕ) → IsReal v → IsNumber (text_of (numeral_of v))
real_number v i =
    let h = real_shape v i in
    let f = fraction_shape i.fraction i.exponent i.is_fraction i.is_exponent in
    let rest = 46 ∷ f.0 ∷ (f.1 ++ i.exponent) in
    ap after_number (real_text v i ∙ h.numeral ∙ ap (λ (l : List ℕ). h.minus ++ (h.core ++ l)) f.4) ∙ after_front h.minus h.core rest h.is_minus h.is_core refl
    ∙ ap (λ (o : Option (List ℕ)). option_and_then after_exponent o) (after_some f.0 f.1 i.exponent f.2 f.3 (exponent_stops i.exponent i.is_exponent)) ∙ exponent_past i.exponent i.is_exponent

-- ---- an integer and a real have different numerals

has_point : List ℕ → Bool
has_point [] = false
has_point (b ∷ bs) = (b == 46) || has_point bs

unpointed : (bs : List ℕ) → AllByRecursion (λ b. b ≢ 46) bs → has_point bs ≡ false
unfolding has_point
unpointed [] h = refl
unpointed (b ∷ bs) h = ap (λ (t : Bool). t || has_point bs) (differs b 46 h.0) ∙ unpointed bs h.1

pointed : (xs rest : List ℕ) → has_point (xs ++ 46 ∷ rest) ≡ true
unfolding has_point
pointed [] rest = refl
pointed (x ∷ xs) rest = ap (λ (t : Bool). (x == 46) || t) (pointed xs rest) ∙ or_true (x == 46) where
  or_true : (t : Bool) → (t || true) ≡ true
  or_true true = refl
  or_true false = refl

minus_points : (m : List ℕ) → (m ≡ []) ⊎ (m ≡ 45 ∷ []) → AllByRecursion (λ b. b ≢ 46) m
minus_points m h =
    let P : List ℕ → Type 0 = λ l. AllByRecursion (λ b. b ≢ 46) l in
    ⊎_elim (λ (e : m ≡ []). subst P (sym e) tt) (λ (e : m ≡ 45 ∷ []). subst P (sym e) (λ q. omega arith, tt)) h

pub int_is_no_real : (v w : List ℕ) → IsInt v → IsReal w → ¬ (numeral_of v ≡ numeral_of w)
int_is_no_real v w i r e =
    let h = int_shape v i in
    let k = real_shape w r in
    let f = fraction_shape r.fraction r.exponent r.is_fraction r.is_exponent in
    let none : has_point (numeral_of v) ≡ false = ap has_point (int_numeral v h) ∙ unpointed (h.minus ++ h.core) (all_append (λ b. b ≢ 46) h.minus h.core (minus_points h.minus h.is_minus) (no_points h.core (core_digits h.core h.is_core))) in
    let some : has_point (numeral_of w) ≡ true =
    ap has_point (k.numeral ∙ ap (λ (l : List ℕ). k.minus ++ (k.core ++ l)) f.4 ∙ sym (append_assoc k.minus k.core (46 ∷ f.0 ∷ (f.1 ++ r.exponent)))) ∙ pointed (k.minus ++ k.core) (f.0 ∷ (f.1 ++ r.exponent)) in
    false≢true (sym none ∙ ap has_point e ∙ some)
