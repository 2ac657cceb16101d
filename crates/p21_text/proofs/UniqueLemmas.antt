-- One text spells one token, and has one list of tokens from each place.
use Rattle.std.proofs.Common.{◌≡◌, ◌≢◌, ℕ, ◌-◌, ◌<◌, ◌≤◌, inl, inr, Bool, true, false, cond, eqb, ltb, List, [], ◌∷◌, ◌++◌, length, take, drop, refl, sym, ap, ◌∙◌, subst, arith}
use Rattle.std.specs.List.{AllByRecursion}
use Rattle.std.proofs.lemmas.List.{length-append, length-take-le, take_at}
use Rattle.std.proofs.lemmas.Bool.{eq-eqb, ne_eqb, lt-ltb, le-ltb}
use Rattle.p21_text.specs.Spelling.{Symbol, Spells, IsUpper, IsDigit, IsName, IsDigits, IsSign, IsInt, IsReal, decimal_from}
use Rattle.p21_text.specs.Spelling as token
use Rattle.p21_text.specs.Tokens.{Passes, Longest, Front, Placed, First, IsLast, Tokens}
use Rattle.p21_text.specs.Tokens as tokens
use Rattle.p21_text.specs.Runs.{IsNameByte, IsNumberByte, FirstIs}
use Rattle.p21_text.proofs.Shapes.{shape, int_first, real_first}
use Rattle.p21_text.proofs.FrontLemmas.{shape_some}

-- the text holds the byte
abbrev has : ℕ → List ℕ → Bool
has c [] = false
has c (x ∷ xs) = cond (eqb x c) true (has c xs)

-- all but the last byte
abbrev inner : List ℕ → List ℕ
inner rest = take (length rest - 1) rest

-- the token that begins with a sign or a mark
abbrev by_mark : ℕ → List ℕ → List ℕ → Symbol → Symbol
by_mark b rest text number =
    cond (eqb b 35) (token.name (decimal_from 0 rest)) (cond (eqb b 39) (token.str (inner rest)) (cond (eqb b 46) (token.enumeration (inner rest)) (cond (eqb b 34) (token.binary (inner rest)) (cond (eqb b 33) (token.user_keyword text) (cond (eqb b 36) token.dollar (cond (eqb b 42) token.star (cond (eqb b 40) token.lparen (cond (eqb b 41) token.rparen (cond (eqb b 44) token.comma (cond (eqb b 61) token.equals (cond (eqb b 59) token.semi number)))))))))))

-- the token that a text spells, if it spells one: by its first byte, and whether it holds a dash or a point
abbrev pub symbol_of : List ℕ → Symbol
symbol_of [] = token.bad
symbol_of (b ∷ rest) =
    let word = cond (has 45 (b ∷ rest)) (cond (eqb b 73) token.iso token.end_iso) (token.keyword (b ∷ rest)) in
    let number = cond (has 46 (b ∷ rest)) (token.real (b ∷ rest)) (token.int (b ∷ rest)) in
    cond (ltb 64 b) word (cond (ltb 47 b) (cond (ltb b 58) number (by_mark b rest (b ∷ rest) number)) (by_mark b rest (b ∷ rest) number))

has_none : (P : ℕ → Type 0) (c : ℕ) → ((x : ℕ) → P x → x ≢ c) → (s : List ℕ) → AllByRecursion P s → has c s ≡ false
has_none P c apart [] each = refl
has_none P c apart (x ∷ s) each = rw (ne_eqb x c (apart x each.0)) (has_none P c apart s each.1)

has_between : (c : ℕ) (a b : List ℕ) → has c (a ++ c ∷ b) ≡ true
has_between c [] b = rw (eq-eqb c c refl) refl
has_between c (x ∷ a) b = elim (eqb x c) as (λ v. cond v true (has c (a ++ c ∷ b)) ≡ true) [ true ↦ refl | false ↦ has_between c a b ]

inner_of : (body : List ℕ) (c : ℕ) → inner (body ++ c ∷ []) ≡ body
inner_of body c = take_at body (c ∷ []) (length (body ++ c ∷ []) - 1) (simp length-append (omega arith))

name_symbol : (s : List ℕ) → IsName s → token.keyword s ≡ symbol_of s
name_symbol [] n = absurd n
name_symbol (b ∷ rest) n =
    let high : 64 < b = (let u = n.0 in omega arith) in
    let no_dash : has 45 (b ∷ rest) ≡ false = has_none IsNameByte 45 (λ x h. λ e. omega arith) (b ∷ rest) (inl n.0, n.1) in
    rw (lt-ltb 64 b high) (rw no_dash refl)

number_symbol : (s : List ℕ) → FirstIs IsNumberByte s → cond (has 46 s) (token.real s) (token.int s) ≡ symbol_of s
number_symbol [] f = absurd f
number_symbol (b ∷ rest) (inl d) = rw (le-ltb 64 b (omega arith)) (rw (lt-ltb 47 b (omega arith)) (rw (lt-ltb b 58 (omega arith)) refl))
number_symbol (b ∷ rest) (inr (inl e)) = rw e refl
number_symbol (b ∷ rest) (inr (inr e)) = rw e refl

int_no_point : (s sign digits : List ℕ) → s ≡ sign ++ digits → IsSign sign → IsDigits digits → has 46 s ≡ false
int_no_point s sign digits e k d = has_none IsNumberByte 46 (λ x h. λ f. omega arith) s (rw e (number_bytes sign digits k d)) where
  digit_bytes : (ds : List ℕ) → AllByRecursion IsDigit ds → AllByRecursion IsNumberByte ds
  digit_bytes [] h = tt
  digit_bytes (x ∷ ds) h = (inl h.0, digit_bytes ds h.1)

  number_bytes : (sign digits : List ℕ) → IsSign sign → IsDigits digits → AllByRecursion IsNumberByte (sign ++ digits)
  number_bytes sign [] k d = absurd d
  number_bytes sign (x ∷ ds) (inl k) d = rw k (digit_bytes (x ∷ ds) d)
  number_bytes sign (x ∷ ds) (inr (inl k)) d = rw k (inr (inl refl), digit_bytes (x ∷ ds) d)
  number_bytes sign (x ∷ ds) (inr (inr k)) d = rw k (inr (inr refl), digit_bytes (x ∷ ds) d)

int_symbol : (s : List ℕ) → IsInt s → token.int s ≡ symbol_of s
int_symbol s i = (rw (int_no_point s i.sign i.digits i.spelled i.is_sign i.are_digits) at (number_symbol s (int_first s i)))

real_symbol : (s : List ℕ) → IsReal s → token.real s ≡ symbol_of s
real_symbol s r =
    let point : has 46 s ≡ true = rw (r.spelled) (has_between 46 r.whole (r.fraction ++ r.exponent)) in
    (rw point at (number_symbol s (real_first s r)))

-- a spelled text spells what its bytes say
pub spelled_is : (s behind : List ℕ) (t : Symbol) → Spells s behind t → t ≡ symbol_of s
spelled_is s behind token.iso h = rw h refl
spelled_is s behind token.end_iso h = rw h refl
spelled_is s behind (token.keyword n) h = rw (h.0) (name_symbol n h.1)
spelled_is s behind (token.user_keyword n) h = rw (h.0) (rw (h.2) refl)
spelled_is s behind (token.int n) h = rw (h.0) (int_symbol n h.1)
spelled_is s behind (token.real n) h = rw (h.0) (real_symbol n h.1)
spelled_is s behind (token.str body) h = rw (h.0) (ap token.str (sym (inner_of body 39)))
spelled_is s behind (token.name n) h = rw (h.1) (ap token.name h.3)
spelled_is s behind (token.enumeration n) h = rw (h.0) (ap token.enumeration (sym (inner_of n 46)))
spelled_is s behind (token.binary n) h = rw (h.0) (ap token.binary (sym (inner_of n 34)))
spelled_is s behind token.dollar h = rw h refl
spelled_is s behind token.star h = rw h refl
spelled_is s behind token.lparen h = rw h refl
spelled_is s behind token.rparen h = rw h refl
spelled_is s behind token.comma h = rw h refl
spelled_is s behind token.equals h = rw h refl
spelled_is s behind token.semi h = rw h refl
spelled_is s behind token.end h = absurd h
spelled_is s behind token.bad h = absurd h

same_number : (m n : ℕ) → m ≤ n → n ≤ m → m ≡ n
same_number m n h k = omega arith

-- as many bytes, and the same token
longest_once : (a : List ℕ) (m n : ℕ) (t u : Symbol) → Longest a m t → Longest a n u → (m ≡ n) × (t ≡ u)
longest_once a m n t u l k =
    let same : m ≡ n = same_number m n (k.longest m t l.fits l.spelled) (l.longest n u k.fits k.spelled) in
    (same, spelled_is (take m a) (drop m a) t l.spelled ∙ ap (λ j. symbol_of (take j a)) same ∙ sym (spelled_is (take n a) (drop n a) u k.spelled))

nil_spells : (n : ℕ) (t : Symbol) → Longest [] n t → ⊥
nil_spells n t l = (let some = shape_some (take n []) (drop n []) (shape (take n []) (drop n []) t l.spelled) in let fits = l.fits in omega (arith, length-take-le {A = ℕ} n [] l.fits))

front_once : (a : List ℕ) (m n : ℕ) (t u : Symbol) → Front a m t → Front a n u → (m ≡ n) × (t ≡ u)
front_once a m n t u (tokens.token l) (tokens.token k) = longest_once a m n t u l k
front_once _ m _ t _ (tokens.token l) tokens.ended = absurd (nil_spells m t l)
front_once a m _ t _ (tokens.token l) (tokens.none some none) = absurd (none m t l.fits l.spelled)
front_once _ _ n _ u tokens.ended (tokens.token k) = absurd (nil_spells n u k)
front_once _ _ _ _ _ tokens.ended tokens.ended = (refl, refl)
front_once _ _ _ _ _ tokens.ended (tokens.none some none) = absurd (some refl)
front_once a _ n _ u (tokens.none some none) (tokens.token k) = absurd (none n u k.fits k.spelled)
front_once _ _ _ _ _ (tokens.none some none) tokens.ended = absurd (some refl)
front_once a _ _ _ _ (tokens.none some none) (tokens.none more others) = (refl, refl)

placed_same : (t u : Placed) → t.start ≡ u.start → t.after ≡ u.after → t.token ≡ u.token → t ≡ u
placed_same t u p q r =
    ap (λ s. record { start = s; after = t.after; token = t.token }) p ∙ ap (λ a. record { start = u.start; after = a; token = t.token }) q ∙ ap (λ k. record { start = u.start; after = u.after; token = k }) r

-- a place has one first token
pub first_once : (text : List ℕ) (at : ℕ) (t u : Placed) → First text at t → First text at u → t ≡ u
first_once text at t u f g =
    let gaps : f.gap ≡ g.gap
    = same_number f.gap g.gap (g.passes.longest f.gap f.passes.fits f.passes.separators) (f.passes.longest g.gap g.passes.fits g.passes.separators) in
    let both : (f.len ≡ g.len) × (t.token ≡ u.token)
    = front_once (drop g.gap (drop at text)) f.len g.len t.token u.token (subst (λ k. Front (drop k (drop at text)) f.len t.token) gaps f.front) g.front in
    let starts : t.start ≡ u.start = (let a = f.start_is in let b = g.start_is in omega arith) in
    let lens : f.len ≡ g.len = both.0 in
    let ends : t.after ≡ u.after = (let a = f.after_is in let b = g.after_is in omega arith) in
    placed_same t u starts ends both.1

-- a place has one list of tokens
pub tokens_once : (text : List ℕ) (at : ℕ) (ts us : List Placed) → Tokens text at ts → Tokens text at us → ts ≡ us
tokens_once text at _ _ (tokens.last {t} f l) (tokens.last {t = u} g k) = ap (λ x. x ∷ []) (first_once text at t u f g)
tokens_once text at _ _ (tokens.last {t} f l) (tokens.more {t = u} g k us) = absurd (k (subst (λ x. IsLast x.token) (first_once text at t u f g) l))
tokens_once text at _ _ (tokens.more {t} f l ts) (tokens.last {t = u} g k) = absurd (l (subst (λ x. IsLast x.token) (sym (first_once text at t u f g)) k))
tokens_once text at _ _ (tokens.more {t} {ts = xs} f l ts) (tokens.more {t = u} {ts = ys} g k us) =
    let same : t ≡ u = first_once text at t u f g in
    let rest : xs ≡ ys = tokens_once text t.after xs ys ts (subst (λ x. Tokens text x.after ys) (sym same) us) in
    ap (λ x. x ∷ xs) same ∙ ap (λ r. u ∷ r) rest
