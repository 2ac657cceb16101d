-- What a spelled front looks like, by its first byte; and the longest front.
use Rattle.std.proofs.Common.{◌≡◌, ◌≢◌, ℕ, ◌^◌, ◌<◌, ◌≤◌, ◌⊎◌, inl, inr, List, [], ◌∷◌, ◌++◌, length, take, drop, refl, ◌∙◌, subst, arith}
use Rattle.std.proofs.lemmas.List.{length-take-le}
use Rattle.p21_text.specs.Items.{IsBody}
use Rattle.p21_text.specs.Spelling.{Symbol, Spells, IsUpper, IsDigit, IsName, IsDigits, IsSign, IsInt, IsReal, IsBinary, NotBefore, decimal_from}
use Rattle.p21_text.specs.Spelling as token
use Rattle.p21_text.specs.Tokens.{Longest, Front, NoneBegins}
use Rattle.p21_text.specs.Tokens as tokens
use Rattle.p21_text.specs.Runs.{IsNumberByte, FirstIs}
use Rattle.p21_text.proofs.Splits.{cut}

-- the words of the exchange structure's first and last line
abbrev pub iso_word : List ℕ
iso_word = 73 ∷ 83 ∷ 79 ∷ 45 ∷ 49 ∷ 48 ∷ 51 ∷ 48 ∷ 51 ∷ 45 ∷ 50 ∷ 49 ∷ []

abbrev pub end_iso_word : List ℕ
end_iso_word = 69 ∷ 78 ∷ 68 ∷ 45 ∷ 73 ∷ 83 ∷ 79 ∷ 45 ∷ 49 ∷ 48 ∷ 51 ∷ 48 ∷ 51 ∷ 45 ∷ 50 ∷ 49 ∷ []

abbrev pub IsWord : List ℕ → Type 0
IsWord front = IsName front ⊎ ((front ≡ iso_word) ⊎ (front ≡ end_iso_word))

-- `$`, `*`, `(`, `)`, `,`, `=` or `;`
abbrev pub IsSingle : ℕ → Type 0
IsSingle b = (b ≡ 36) ⊎ ((b ≡ 42) ⊎ ((b ≡ 40) ⊎ ((b ≡ 41) ⊎ ((b ≡ 44) ⊎ ((b ≡ 61) ⊎ (b ≡ 59))))))

-- what is spelled, by its first byte
pub data Shape (front behind : List ℕ) : Type 0 where
  word : FirstIs IsUpper front → IsWord front → Shape front behind
  number : FirstIs IsNumberByte front → IsInt front ⊎ IsReal front → Shape front behind
  single : (b : ℕ) → front ≡ b ∷ [] → IsSingle b → Shape front behind
  name : (digits : List ℕ) → front ≡ 35 ∷ digits → IsDigits digits → decimal_from 0 digits < 2 ^ 64 → NotBefore IsDigit behind → Shape front behind
  string : (body : List ℕ) → front ≡ 39 ∷ (body ++ 39 ∷ []) → IsBody body → NotBefore (λ b. b ≡ 39) behind → Shape front behind
  enumeration : (n : List ℕ) → front ≡ 46 ∷ (n ++ 46 ∷ []) → IsName n → Shape front behind
  binary : (s : List ℕ) → front ≡ 34 ∷ (s ++ 34 ∷ []) → IsBinary s → Shape front behind
  user : (n : List ℕ) → front ≡ 33 ∷ n → IsName n → Shape front behind

name_first : (s : List ℕ) → IsName s → FirstIs IsUpper s
name_first [] h = h
name_first (b ∷ rest) h = h.0

by_sign : (s sign digits : List ℕ) → s ≡ sign ++ digits → IsSign sign → IsDigits digits → FirstIs IsNumberByte s
by_sign s sign [] e k d = absurd d
by_sign s sign (b ∷ rest) e (inl k) d = rw (e, k) (inl d.0)
by_sign s sign (b ∷ rest) e (inr (inl k)) d = rw (e, k) (inr (inl refl))
by_sign s sign (b ∷ rest) e (inr (inr k)) d = rw (e, k) (inr (inr refl))

pub int_first : (s : List ℕ) → IsInt s → FirstIs IsNumberByte s
int_first s i = by_sign s i.sign i.digits i.spelled i.is_sign i.are_digits

first_of_more : (P : ℕ → Type 0) (a b : List ℕ) → FirstIs P a → FirstIs P (a ++ b)
first_of_more P [] b h = absurd h
first_of_more P (x ∷ a) b h = h

pub real_first : (s : List ℕ) → IsReal s → FirstIs IsNumberByte s
real_first s r = rw (r.spelled) (first_of_more IsNumberByte r.whole (46 ∷ (r.fraction ++ r.exponent)) (int_first r.whole r.is_whole))

pub shape : (front behind : List ℕ) (t : Symbol) → Spells front behind t → Shape front behind
shape front behind token.iso h = word (rw h (inl (omega arith))) (inr (inl h))
shape front behind token.end_iso h = word (rw h (inl (omega arith))) (inr (inr h))
shape front behind (token.keyword s) h = let n : IsName front = (rw (h.0) (h.1)) in word (name_first front n) (inl n)
shape front behind (token.user_keyword s) h = user h.1 (h.0 ∙ h.2) h.3
shape front behind (token.int s) h = let i : IsInt front = (rw (h.0) (h.1)) in number (int_first front i) (inl i)
shape front behind (token.real s) h = let r : IsReal front = (rw (h.0) (h.1)) in number (real_first front r) (inr r)
shape front behind (token.str s) h = string s h.0 h.1 h.2
shape front behind (token.name n) h = name h.0 h.1 h.2 (rw (← h.3) h.4) h.5
shape front behind (token.enumeration n) h = enumeration n h.0 h.1
shape front behind (token.binary s) h = binary s h.0 h.1
shape front behind token.dollar h = single 36 h (inl refl)
shape front behind token.star h = single 42 h (inr (inl refl))
shape front behind token.lparen h = single 40 h (inr (inr (inl refl)))
shape front behind token.rparen h = single 41 h (inr (inr (inr (inl refl))))
shape front behind token.comma h = single 44 h (inr (inr (inr (inr (inl refl)))))
shape front behind token.equals h = single 61 h (inr (inr (inr (inr (inr (inl refl))))))
shape front behind token.semi h = single 59 h (inr (inr (inr (inr (inr (inr refl))))))
shape front behind token.end h = absurd h
shape front behind token.bad h = absurd h

-- a front that is spelled, and no longer one
pub front_by : (text : List ℕ) (n : ℕ) (t : Symbol) → n ≤ length text → Spells (take n text) (drop n text) t
    → ((front behind : List ℕ) → text ≡ front ++ behind → Shape front behind → length front ≤ n) → Front text n t
front_by text n t fits spelled longest = tokens.token (record {
  fits = fits;
  spelled = spelled;
  longest = λ m other h s. subst (λ k. k ≤ n) (length-take-le m text h) (longest (take m text) (drop m text) (cut text m) (shape (take m text) (drop m text) other s));
})

-- no front is spelled
pub none_by : (text : List ℕ) → text ≢ [] → ((front behind : List ℕ) → text ≡ front ++ behind → Shape front behind → ⊥) → Front text 0 token.bad
none_by text some none = tokens.none some (λ m other h s. none (take m text) (drop m text) (cut text m) (shape (take m text) (drop m text) other s))

-- what a front begins with, the text does
pub first_front : (P : ℕ → Type 0) (text front behind : List ℕ) → text ≡ front ++ behind → FirstIs P front → FirstIs P text
first_front P text front behind e f = rw e (first_of_more P front behind f)

pub not_nil : (P : ℕ → Type 0) (text : List ℕ) → FirstIs P text → text ≡ [] → ⊥
not_nil P [] f e = absurd f
not_nil P (b ∷ text) f e = cc
