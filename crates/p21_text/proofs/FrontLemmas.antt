-- The token at the front of a text, where it is one byte, or none begins, or the text is empty.
use Rattle.std.proofs.Common.{◌≡◌, ◌≢◌, ℕ, zero-le, ◌<◌, ◌≤◌, inl, inr, List, [], ◌∷◌, ◌++◌, length, take, drop, sym, ap, ◌∙◌, subst, arith}
use Rattle.std.proofs.lemmas.List.{nil_from_length, length-take-le}
use Rattle.p21_text.specs.Spelling.{Symbol, Spells, IsUpper}
use Rattle.p21_text.specs.Spelling as token
use Rattle.p21_text.specs.Contents.{IsContent}
use Rattle.p21_text.specs.Separators.{IsWhite}
use Rattle.p21_text.specs.Gaps.{HasNoUnit}
use Rattle.p21_text.specs.Gaps as unit
use Rattle.p21_text.specs.Tokens.{Front, IsLast, Passes}
use Rattle.p21_text.specs.Tokens as tokens
use Rattle.p21_text.specs.Runs.{IsNumberByte, FirstIs}
use Rattle.p21_text.proofs.Shapes.{IsSingle, Shape, word, number, single, name, string, enumeration, binary, user, shape, front_by, none_by}
use Rattle.p21_text.proofs.Groups.{BeginsNothing, only_single, only_nothing}
use Rattle.p21_text.proofs.SeparatorLemmas.{passes_none}

pub end_front : (text : List ℕ) → length text ≡ 0 → Front text 0 token.end
end_front text e = rw (nil_from_length text e) tokens.ended

-- no separator stands in an empty text
no_unit_in_none : HasNoUnit []
no_unit_in_none _ behind e (unit.white w) = absurd cc
no_unit_in_none front behind e (unit.comment c) =
    let same : [] ≡ 47 ∷ ((42 ∷ (c.body ++ 42 ∷ 47 ∷ [])) ++ behind) = e ∙ ap (λ t. t ++ behind) c.spelled in
    absurd cc

-- the byte c is a whole token
pub single_front : (text tail : List ℕ) (b c : ℕ) (t : Symbol) → text ≡ b ∷ tail → b ≡ c → IsSingle c → Spells (c ∷ []) tail t → Front text 1 t
single_front text tail b c t e f k s =
    rw (e, f) (front_by (c ∷ tail) 1 t (omega arith) s (λ front behind g h. subst (λ n. n ≤ 1) (sym (only_single c tail front behind g k h)) (omega arith)))

-- a byte that is a whole token is none that a separator begins with
single_range : (b : ℕ) → IsSingle b → (32 < b) × (b ≢ 47)
single_range b (inl e) = (omega arith, λ h. omega arith)
single_range b (inr (inl e)) = (omega arith, λ h. omega arith)
single_range b (inr (inr (inl e))) = (omega arith, λ h. omega arith)
single_range b (inr (inr (inr (inl e)))) = (omega arith, λ h. omega arith)
single_range b (inr (inr (inr (inr (inl e))))) = (omega arith, λ h. omega arith)
single_range b (inr (inr (inr (inr (inr (inl e)))))) = (omega arith, λ h. omega arith)
single_range b (inr (inr (inr (inr (inr (inr e)))))) = (omega arith, λ h. omega arith)

white_low : (b : ℕ) → IsWhite b → b ≤ 32
white_low b (inl h) = (let low = h.1 in omega arith)
white_low b (inr e) = omega arith

-- no separator begins with such a byte
single_unit : (b : ℕ) (tail : List ℕ) → IsSingle b → HasNoUnit (b ∷ tail)
single_unit b tail k _ behind e (unit.white {b = w} white) =
    let same : b ≡ w = cc in
    let low = white_low w white in
    let high = (single_range b k).0 in
    absurd (omega arith)
single_unit b tail k front behind e (unit.comment c) =
    let same : b ∷ tail ≡ 47 ∷ ((42 ∷ (c.body ++ 42 ∷ 47 ∷ [])) ++ behind) = e ∙ ap (λ t. t ++ behind) c.spelled in
    absurd ((single_range b k).1 cc)

-- a byte that is a whole token, with no separators before it
pub single_mark : (text tail : List ℕ) (b c : ℕ) (t : Symbol) → text ≡ b ∷ tail → b ≡ c → IsSingle c → Spells (c ∷ []) tail t → Passes text 0 × Front text 1 t
single_mark text tail b c t e f k s = (rw (e, f) (passes_none (c ∷ tail) (single_unit c tail k)), single_front text tail b c t e f k s)

-- the end of a text, with no separators before it
pub end_mark : (text : List ℕ) → length text ≡ 0 → Passes text 0 × Front text 0 token.end
end_mark text e = (rw (nil_from_length text e) (passes_none [] no_unit_in_none), end_front text e)

pub bad_front : (text tail : List ℕ) (b : ℕ) → text ≡ b ∷ tail → BeginsNothing b → Front text 0 token.bad
bad_front text tail b e none = rw e (none_by (b ∷ tail) (λ h. cc) (λ front behind g h. only_nothing b tail front behind g none h))

-- a token's bytes are the text's
pub front_within : (text : List ℕ) (n : ℕ) (t : Symbol) → Front text n t → n ≤ length text
front_within text n t (tokens.token l) = l.fits
front_within text n t tokens.ended = omega arith
front_within text n t (tokens.none some none) = zero-le

first_some : (P : ℕ → Type 0) (s : List ℕ) → FirstIs P s → 0 < length s
first_some P [] h = absurd h
first_some P (b ∷ s) h = omega arith

-- nothing spells a token by no byte
pub shape_some : (front behind : List ℕ) → Shape front behind → 0 < length front
shape_some front behind (word f h) = first_some IsUpper front f
shape_some front behind (number f h) = first_some IsNumberByte front f
shape_some front behind (single b e h) = omega (arith, ap length e)
shape_some front behind (name ds e h v l) = omega (arith, ap length e)
shape_some front behind (string body e h l) = omega (arith, ap length e)
shape_some front behind (enumeration n e h) = omega (arith, ap length e)
shape_some front behind (binary n e h) = omega (arith, ap length e)
shape_some front behind (user n e h) = omega (arith, ap length e)

pub front_some : (text : List ℕ) (n : ℕ) (t : Symbol) → Front text n t → ¬ (IsLast t) → 0 < n
front_some text n t (tokens.token l) more =
    subst (λ k. 0 < k) (length-take-le n text l.fits) (shape_some (take n text) (drop n text) (shape (take n text) (drop n text) t l.spelled))
front_some text n t tokens.ended more = absurd (more tokens.at_end)
front_some text n t (tokens.none some none) more = absurd (more tokens.at_bad)

content_of : (front behind : List ℕ) (t : Symbol) → Spells front behind t → IsContent t
content_of front behind token.iso h = tt
content_of front behind token.end_iso h = tt
content_of front behind (token.keyword s) h = h.1
content_of front behind (token.user_keyword s) h = (h.1, h.2, h.3)
content_of front behind (token.int s) h = h.1
content_of front behind (token.real s) h = h.1
content_of front behind (token.str s) h = h.1
content_of front behind (token.name n) h = h.4
content_of front behind (token.enumeration n) h = h.1
content_of front behind (token.binary s) h = h.1
content_of front behind token.dollar h = tt
content_of front behind token.star h = tt
content_of front behind token.lparen h = tt
content_of front behind token.rparen h = tt
content_of front behind token.comma h = tt
content_of front behind token.equals h = tt
content_of front behind token.semi h = tt
content_of front behind token.end h = tt
content_of front behind token.bad h = tt

pub front_content : (text : List ℕ) (n : ℕ) (t : Symbol) → Front text n t → IsContent t
front_content text n t (tokens.token l) = content_of (take n text) (drop n text) t l.spelled
front_content text n t tokens.ended = tt
front_content text n t (tokens.none some none) = tt
