-- What the bytes of a token are: only a string holds a mark, and only `;` is one.
use Rattle.std.proofs.Common.{◌≡◌, ◌≢◌, ℕ, ◌<◌, ◌⊎◌, inl, inr, List, [], ◌∷◌, ◌++◌, refl, subst, arith}
use Rattle.std.specs.List.{AllByRecursion}
use Rattle.p21_text.specs.Items.{IsHexDigit}
use Rattle.p21_text.specs.Items
use Rattle.p21_text.specs.Spelling.{Symbol, Spells, IsUpper, IsDigit, IsName, IsDigits, IsSign, IsInt, IsExponent, IsReal, IsBinary, NotBefore}
use Rattle.p21_text.specs.Spelling as token

-- no `;`, no `'`, no `/`
abbrev pub IsNoMark : ℕ → Type 0
IsNoMark b = (b ≢ 59) × (b ≢ 39) × (b ≢ 47)

abbrev pub HasNoMark : List ℕ → Type 0
HasNoMark s = AllByRecursion IsNoMark s

apart : (b : ℕ) → (b < 39) ⊎ (((39 < b) × (b < 47)) ⊎ (((47 < b) × (b < 59)) ⊎ (59 < b))) → IsNoMark b
apart b h = (λ e. omega arith, λ e. omega arith, λ e. omega arith)

upper : (b : ℕ) → IsUpper b → IsNoMark b
upper b h = (λ e. omega arith, λ e. omega arith, λ e. omega arith)

digit : (b : ℕ) → IsDigit b → IsNoMark b
digit b h = (λ e. omega arith, λ e. omega arith, λ e. omega arith)

both : (a b : List ℕ) → HasNoMark a → HasNoMark b → HasNoMark (a ++ b)
both [] b h k = k
both (x ∷ a) b h k = (h.0, both a b h.1 k)

name_tail : (s : List ℕ) → AllByRecursion (λ c. IsUpper c ⊎ IsDigit c) s → HasNoMark s
name_tail [] h = tt
name_tail (b ∷ s) h = (elim h.0 [ inl u ↦ upper b u | inr d ↦ digit b d ], name_tail s h.1)

name : (s : List ℕ) → IsName s → HasNoMark s
name [] h = absurd h
name (b ∷ s) h = (upper b h.0, name_tail s h.1)

all_digits : (s : List ℕ) → AllByRecursion IsDigit s → HasNoMark s
all_digits [] h = tt
all_digits (b ∷ s) h = (digit b h.0, all_digits s h.1)

digits : (s : List ℕ) → IsDigits s → HasNoMark s
digits [] h = absurd h
digits (b ∷ s) h = (digit b h.0, all_digits s h.1)

sign : (s : List ℕ) → IsSign s → HasNoMark s
sign s (inl e) = rw e tt
sign s (inr (inl e)) = rw e (apart 43 (inr (inl (omega arith, omega arith))), tt)
sign s (inr (inr e)) = rw e (apart 45 (inr (inl (omega arith, omega arith))), tt)

int : (s : List ℕ) → IsInt s → HasNoMark s
int s i = rw i.spelled (both i.sign i.digits (sign i.sign i.is_sign) (digits i.digits i.are_digits))

exponent : (s : List ℕ) → IsExponent s → HasNoMark s
exponent [] h = tt
exponent (b ∷ s) h = (apart b (inr (inr (inr (let e = h.0 in omega arith)))), int s h.1)

real : (s : List ℕ) → IsReal s → HasNoMark s
real s r = rw r.spelled (both r.whole (46 ∷ (r.fraction ++ r.exponent)) (int r.whole r.is_whole)
    (apart 46 (inr (inl (omega arith, omega arith))), both r.fraction r.exponent (all_digits r.fraction r.is_fraction) (exponent r.exponent r.is_exponent)))

hex : (s : List ℕ) → AllByRecursion (λ h. (v : ℕ) × IsHexDigit h v) s → HasNoMark s
hex [] h = tt
hex (b ∷ s) h = (hex_digit b h.0.0 h.0.1, hex s h.1) where
  hex_digit : (b v : ℕ) → IsHexDigit b v → IsNoMark b
  hex_digit b v (Items.digit e low) = (λ f. omega arith, λ f. omega arith, λ f. omega arith)
  hex_digit b v (Items.upper e low high) = (λ f. omega arith, λ f. omega arith, λ f. omega arith)
  hex_digit b v (Items.lower e low high) = (λ f. omega arith, λ f. omega arith, λ f. omega arith)

binary : (s : List ℕ) → IsBinary s → HasNoMark s
binary [] h = absurd h
binary (b ∷ []) h = (apart b (inr (inr (inl (omega arith, omega arith)))), tt)
binary (b ∷ c ∷ s) h = (apart b (let l = h.0 in let u = h.1 in inr (inr (inl (omega arith, omega arith)))), hex (c ∷ s) h.2)

IsString : Symbol → Type 0
IsString t = (body : List ℕ) × (t ≡ token.str body)

point : IsNoMark 46
point = apart 46 (inr (inl (omega arith, omega arith)))

letter : (b : ℕ) → 64 < b → IsNoMark b
letter b h = (λ e. omega arith, λ e. omega arith, λ e. omega arith)

dash : IsNoMark 45
dash = apart 45 (inr (inl (omega arith, omega arith)))

-- -10303-21
part : HasNoMark (45 ∷ 49 ∷ 48 ∷ 51 ∷ 48 ∷ 51 ∷ 45 ∷ 50 ∷ 49 ∷ [])
part =
    let one = digit 49 (omega arith, omega arith) in
    let zero = digit 48 (omega arith, omega arith) in
    let three = digit 51 (omega arith, omega arith) in
    (dash, (one, (zero, (three, (zero, (three, (dash, (digit 50 (omega arith, omega arith), (one, tt)))))))))

one_byte : (s : List ℕ) (b : ℕ) → s ≡ b ∷ [] → IsNoMark b → HasNoMark s
one_byte s b e h = rw e (h, tt)

-- a token that is no string and no `;` holds no mark
pub no_mark : (s behind : List ℕ) (t : Symbol) → Spells s behind t → ((body : List ℕ) → t ≢ token.str body) → t ≢ token.semi → HasNoMark s
no_mark s behind token.iso h no_string no_semi = rw h (letter 73 (omega arith), (letter 83 (omega arith), (letter 79 (omega arith), part)))
no_mark s behind token.end_iso h no_string no_semi = rw h (letter 69 (omega arith), (letter 78 (omega arith), (letter 68 (omega arith), (dash, (letter 73 (omega arith), (letter 83 (omega arith), (letter 79 (omega arith), part)))))))
no_mark s behind (token.keyword n) h no_string no_semi = rw h.0 (name n h.1)
no_mark s behind (token.user_keyword n) h no_string no_semi = rw h.0 (rw h.2 (apart 33 (inl (omega arith)), name h.1 h.3))
no_mark s behind (token.int n) h no_string no_semi = rw h.0 (int n h.1)
no_mark s behind (token.real n) h no_string no_semi = rw h.0 (real n h.1)
no_mark s behind (token.str body) h no_string no_semi = absurd (no_string body refl)
no_mark s behind (token.name n) h no_string no_semi = rw h.1 (apart 35 (inl (omega arith)), digits h.0 h.2)
no_mark s behind (token.enumeration n) h no_string no_semi = rw h.0 (point, both n (46 ∷ []) (name n h.1) (point, tt))
no_mark s behind (token.binary n) h no_string no_semi = rw h.0 (apart 34 (inl (omega arith)), both n (34 ∷ []) (binary n h.1) (apart 34 (inl (omega arith)), tt))
no_mark s behind token.dollar h no_string no_semi = one_byte s 36 h (apart 36 (inl (omega arith)))
no_mark s behind token.star h no_string no_semi = one_byte s 42 h (apart 42 (inr (inl (omega arith, omega arith))))
no_mark s behind token.lparen h no_string no_semi = one_byte s 40 h (apart 40 (inr (inl (omega arith, omega arith))))
no_mark s behind token.rparen h no_string no_semi = one_byte s 41 h (apart 41 (inr (inl (omega arith, omega arith))))
no_mark s behind token.comma h no_string no_semi = one_byte s 44 h (apart 44 (inr (inl (omega arith, omega arith))))
no_mark s behind token.equals h no_string no_semi = one_byte s 61 h (apart 61 (inr (inr (inr (omega arith)))))
no_mark s behind token.semi h no_string no_semi = absurd (no_semi refl)
no_mark s behind token.end h no_string no_semi = absurd h
no_mark s behind token.bad h no_string no_semi = absurd h

-- both texts are empty, or their first bytes are the same
abbrev pub BeginAlike : List ℕ → List ℕ → Type 0
BeginAlike [] [] = Unit {0}
BeginAlike [] (c ∷ y) = ⊥
BeginAlike (b ∷ x) [] = ⊥
BeginAlike (b ∷ x) (c ∷ y) = b ≡ c

not_before : (P : ℕ → Type 0) (x y : List ℕ) → BeginAlike x y → NotBefore P x → NotBefore P y
not_before P [] [] e h = tt
not_before P [] (c ∷ y) e h = absurd e
not_before P (b ∷ x) [] e h = absurd e
not_before P (b ∷ x) (c ∷ y) e h = subst (λ d. ¬ (P d)) e h

-- of what is after a token the first byte alone counts
pub spells_alike : (s x y : List ℕ) (t : Symbol) → BeginAlike x y → Spells s x t → Spells s y t
spells_alike s x y token.iso e h = h
spells_alike s x y token.end_iso e h = h
spells_alike s x y (token.keyword n) e h = h
spells_alike s x y (token.user_keyword n) e h = h
spells_alike s x y (token.int n) e h = h
spells_alike s x y (token.real n) e h = h
spells_alike s x y (token.str body) e h = (h.0, h.1, not_before (λ b. b ≡ 39) x y e h.2)
spells_alike s x y (token.name n) e h = (h.0, h.1, h.2, h.3, h.4, not_before IsDigit x y e h.5)
spells_alike s x y (token.enumeration n) e h = h
spells_alike s x y (token.binary n) e h = h
spells_alike s x y token.dollar e h = h
spells_alike s x y token.star e h = h
spells_alike s x y token.lparen e h = h
spells_alike s x y token.rparen e h = h
spells_alike s x y token.comma e h = h
spells_alike s x y token.equals e h = h
spells_alike s x y token.semi e h = h
spells_alike s x y token.end e h = absurd h
spells_alike s x y token.bad e h = absurd h

-- ---- what a first byte begins

abbrev pub FirstIs : (ℕ → Type 0) → List ℕ → Type 0
FirstIs P [] = ⊥
FirstIs P (b ∷ s) = P b

abbrev pub BeginsNumber : ℕ → Type 0
BeginsNumber b = IsDigit b ⊎ ((b ≡ 43) ⊎ (b ≡ 45))

first_of_more : (P : ℕ → Type 0) (a b : List ℕ) → FirstIs P a → FirstIs P (a ++ b)
first_of_more P [] b h = absurd h
first_of_more P (x ∷ a) b h = h

int_first : (s : List ℕ) → IsInt s → FirstIs BeginsNumber s
int_first s i = rw i.spelled (by_sign i.sign i.digits i.is_sign i.are_digits) where
  by_sign : (g ds : List ℕ) → IsSign g → IsDigits ds → FirstIs BeginsNumber (g ++ ds)
  by_sign g [] k d = absurd d
  by_sign g (b ∷ ds) (inl e) d = rw e (inl d.0)
  by_sign g (b ∷ ds) (inr (inl e)) d = rw e (inr (inl refl))
  by_sign g (b ∷ ds) (inr (inr e)) d = rw e (inr (inr refl))

real_first : (s : List ℕ) → IsReal s → FirstIs BeginsNumber s
real_first s r = rw r.spelled (first_of_more BeginsNumber r.whole (46 ∷ (r.fraction ++ r.exponent)) (int_first r.whole r.is_whole))

-- the byte that each token begins with
abbrev pub MayBegin : Symbol → ℕ → Type 0
MayBegin token.iso b = b ≡ 73
MayBegin token.end_iso b = b ≡ 69
MayBegin (token.keyword s) b = IsUpper b
MayBegin (token.user_keyword s) b = b ≡ 33
MayBegin (token.int s) b = BeginsNumber b
MayBegin (token.real s) b = BeginsNumber b
MayBegin (token.str s) b = b ≡ 39
MayBegin (token.name n) b = b ≡ 35
MayBegin (token.enumeration s) b = b ≡ 46
MayBegin (token.binary s) b = b ≡ 34
MayBegin token.dollar b = b ≡ 36
MayBegin token.star b = b ≡ 42
MayBegin token.lparen b = b ≡ 40
MayBegin token.rparen b = b ≡ 41
MayBegin token.comma b = b ≡ 44
MayBegin token.equals b = b ≡ 61
MayBegin token.semi b = b ≡ 59
MayBegin token.end b = ⊥
MayBegin token.bad b = ⊥

name_first : (s : List ℕ) → IsName s → FirstIs IsUpper s
name_first [] h = absurd h
name_first (b ∷ s) h = h.0

pub begins : (s behind : List ℕ) (t : Symbol) → Spells s behind t → FirstIs (MayBegin t) s
begins s behind token.iso h = rw h refl
begins s behind token.end_iso h = rw h refl
begins s behind (token.keyword n) h = rw h.0 (name_first n h.1)
begins s behind (token.user_keyword n) h = rw h.0 (rw h.2 refl)
begins s behind (token.int n) h = rw h.0 (int_first n h.1)
begins s behind (token.real n) h = rw h.0 (real_first n h.1)
begins s behind (token.str body) h = rw h.0 refl
begins s behind (token.name n) h = rw h.1 refl
begins s behind (token.enumeration n) h = rw h.0 refl
begins s behind (token.binary n) h = rw h.0 refl
begins s behind token.dollar h = rw h refl
begins s behind token.star h = rw h refl
begins s behind token.lparen h = rw h refl
begins s behind token.rparen h = rw h refl
begins s behind token.comma h = rw h refl
begins s behind token.equals h = rw h refl
begins s behind token.semi h = rw h refl
begins s behind token.end h = absurd h
begins s behind token.bad h = absurd h
