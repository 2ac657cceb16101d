-- Names, items and digits by their texts.
use Rattle.std.proofs.Common.{◌≡◌, ◌⊎◌, ◌≤◌, ◌<◌, ◌-◌, ◌*◌, ℕ, suc, Bool, true, false, List, [], ◌∷◌, map, drop, length, refl, sym, ap, subst, ◌∙◌, inl, inr, ⊎_elim, arith}
use Rattle.std.specs.List.{AllByRecursion}
use Rattle.std.specs.Char.{to_ascii_lowercase}
use Rattle.std.specs.Str.{IsAscii, bytes_eq}
use Rattle.std.proofs.lemmas.Bool.{false≢true}
use Rattle.std.proofs.lemmas.Slice.Eq.{bytes_eq-Decides}
use Rattle.std.proofs.lemmas.Str.{encodes-IsAscii}
use Rattle.std.proofs.lemmas.Str.Ascii.{IsAscii-cons, IsAscii-nil, lowercase_is}
use Rattle.p21_text.specs.Items.{IsHexDigit}
use Rattle.p21_text.specs.Items as hex
use Rattle.p21_text.specs.Spelling.{IsUpper, IsDigit, IsName, IsBinary, bits_of}
use Rattle.p21_json.specs.Spelled.{IsSpelled, text_of}
use Rattle.p21_json.specs.Spellings.{IsKeyword}

-- ---- texts of ASCII

pub same_ascii : (v w : List ℕ) → IsAscii v → IsAscii w → text_of v ≡ text_of w → v ≡ w
same_ascii v w h k e = sym (encodes-IsAscii v h) ∙ e ∙ encodes-IsAscii w k

by_test : (b : Bool) (n m : List ℕ) → bytes_eq n m ≡ b → (n ≡ m) ⊎ ¬ (n ≡ m)
by_test true n m e = inl ((bytes_eq-Decides n m).0 e)
by_test false n m e = inr (λ q. false≢true (sym e ∙ (bytes_eq-Decides n m).1 q))

-- two texts are the same or not
pub same_or_not : (n m : List ℕ) → (n ≡ m) ⊎ ¬ (n ≡ m)
same_or_not n m = by_test (bytes_eq n m) n m refl

-- ---- names

-- a byte below 128 that is no letter in lower case
abbrev pub IsPart : ℕ → Type 0
IsPart b = (b < 97) ⊎ ((122 < b) × (b < 128))

part_of : (b : ℕ) → IsUpper b ⊎ IsDigit b → IsPart b
part_of b h = ⊎_elim (λ (u : IsUpper b). ⊎_elim (λ (p : (65 ≤ b) × (b ≤ 90)). inl (let q = p.1 in omega arith)) (λ (e : b ≡ 95). inl (omega arith)) u) (λ (d : IsDigit b). inl (let q = d.1 in omega arith)) h

parts_of : (bs : List ℕ) → AllByRecursion (λ c. IsUpper c ⊎ IsDigit c) bs → AllByRecursion IsPart bs
parts_of [] h = tt
parts_of (b ∷ bs) h = (part_of b h.0, parts_of bs h.1)

pub name_parts : (n : List ℕ) → IsName n → AllByRecursion IsPart n
name_parts [] h = absurd h
name_parts (b ∷ bs) h = (part_of b (inl h.0), parts_of bs h.1)

pub keyword_parts : (k : List ℕ) → IsKeyword k → AllByRecursion IsPart k
keyword_parts k h =
    ⊎_elim (λ (n : IsName k). name_parts k n)
    (λ (u : (n : List ℕ) × (k ≡ 33 ∷ n) × IsName n). subst (AllByRecursion IsPart) (sym u.1) (inl (omega arith), name_parts u.0 u.2))
    h

pub parts_ascii : (bs : List ℕ) → AllByRecursion IsPart bs → IsAscii bs
parts_ascii [] h = IsAscii-nil
parts_ascii (b ∷ bs) h = IsAscii-cons b bs (⊎_elim (λ (p : b < 97). omega arith) (λ (q : (122 < b) × (b < 128)). q.1) h.0) (parts_ascii bs h.1)

low : (b c : ℕ) → IsPart c → to_ascii_lowercase b ≡ to_ascii_lowercase c → b < 128
low b c h e = let p = lowercase_is b in let q = lowercase_is c in grind (arith, lowercase_is)

same_letter : (b c : ℕ) → IsPart b → IsPart c → to_ascii_lowercase b ≡ to_ascii_lowercase c → b ≡ c
same_letter b c h k e = grind (arith, lowercase_is)

low_all : (bs cs : List ℕ) → AllByRecursion IsPart cs → map to_ascii_lowercase bs ≡ map to_ascii_lowercase cs → IsAscii bs
low_all [] cs h e = IsAscii-nil
low_all (b ∷ bs) [] h e = cc
low_all (b ∷ bs) (c ∷ cs) h e =
    let first : to_ascii_lowercase b ≡ to_ascii_lowercase c = cc in
    let rest : map to_ascii_lowercase bs ≡ map to_ascii_lowercase cs = cc in IsAscii-cons b bs (low b c h.0 first) (low_all bs cs h.1 rest)

pub same_letters : (bs cs : List ℕ) → AllByRecursion IsPart bs → AllByRecursion IsPart cs → map to_ascii_lowercase bs ≡ map to_ascii_lowercase cs → bs ≡ cs
same_letters [] [] h k e = refl
same_letters [] (c ∷ cs) h k e = cc
same_letters (b ∷ bs) [] h k e = cc
same_letters (b ∷ bs) (c ∷ cs) h k e =
    let first : to_ascii_lowercase b ≡ to_ascii_lowercase c = cc in
    let rest : map to_ascii_lowercase bs ≡ map to_ascii_lowercase cs = cc in cc (same_letter b c h.0 k.0 first, same_letters bs cs h.1 k.1 rest)

-- what one text spells is the same
pub same_text : (text k l : List ℕ) → AllByRecursion IsPart k → AllByRecursion IsPart l → IsSpelled text k → IsSpelled text l → k ≡ l
same_text text k l ks ls p q =
    let bytes : p.bytes ≡ q.bytes = same_ascii p.bytes q.bytes (low_all p.bytes k ks p.same) (low_all q.bytes l ls q.same) (sym p.spelled ∙ q.spelled) in
    same_letters k l ks ls (sym p.same ∙ ap (map to_ascii_lowercase) bytes ∙ q.same)

-- keywords that one text spells are the same
pub same_keyword : (text k l : List ℕ) → IsKeyword k → IsKeyword l → IsSpelled text k → IsSpelled text l → k ≡ l
same_keyword text k l h g p q = same_text text k l (keyword_parts k h) (keyword_parts l g) p q

-- items of enumerations that one text spells are the same
pub same_name : (v w : List ℕ) → IsName v → IsName w → text_of v ≡ text_of w → v ≡ w
same_name v w h k e = same_ascii v w (parts_ascii v (name_parts v h)) (parts_ascii w (name_parts w k)) e

-- ---- binaries

hex_low : (b v : ℕ) → IsHexDigit b v → b < 128
hex_low b v (hex.digit e l) = omega arith
hex_low b v (hex.upper e l h) = omega arith
hex_low b v (hex.lower e l h) = omega arith

hex_ascii : (bs : List ℕ) → AllByRecursion (λ h. (v : ℕ) × IsHexDigit h v) bs → IsAscii bs
hex_ascii [] h = IsAscii-nil
hex_ascii (b ∷ bs) h = IsAscii-cons b bs (hex_low b h.0.0 h.0.1) (hex_ascii bs h.1)

digits_ascii : (v : List ℕ) → IsBinary v → IsAscii (drop 1 v)
digits_ascii [] h = absurd h
digits_ascii (b ∷ []) h = IsAscii-nil
digits_ascii (b ∷ c ∷ rest) h = hex_ascii (c ∷ rest) h.2

same_first : (v w : List ℕ) → IsBinary v → IsBinary w → bits_of v ≡ bits_of w → drop 1 v ≡ drop 1 w → v ≡ w
same_first [] w h k e f = absurd h
same_first (b ∷ []) [] h k e f = absurd k
same_first (b ∷ []) (c ∷ []) h k e f = cc
same_first (b ∷ []) (c ∷ y ∷ ys) h k e f = cc
same_first (b ∷ x ∷ xs) [] h k e f = absurd k
same_first (b ∷ x ∷ xs) (c ∷ []) h k e f = cc
same_first (b ∷ x ∷ xs) (c ∷ y ∷ ys) h k e f =
    let rest : x ∷ xs ≡ y ∷ ys = f in
    let count : length (x ∷ xs) ≡ length (y ∷ ys) = ap length rest in
    let first : b ≡ c = numbers b c (length xs) (length ys) h.0 h.1 k.0 k.1 e (omega arith) in cc (first, rest)
  where
    numbers : (b c m n : ℕ) → 48 ≤ b → b ≤ 51 → 48 ≤ c → c ≤ 51 → 4 * suc m - (b - 48) ≡ 4 * suc n - (c - 48) → m ≡ n → b ≡ c
    numbers b c m n p q r t e f = omega arith

-- binaries of the same number of bits and the same digits are the same
pub same_binary : (v w : List ℕ) → IsBinary v → IsBinary w → bits_of v ≡ bits_of w → text_of (drop 1 v) ≡ text_of (drop 1 w) → v ≡ w
same_binary v w h k e f = same_first v w h k e (same_ascii (drop 1 v) (drop 1 w) (digits_ascii v h) (digits_ascii w k) f)
