-- The words of a text, as their loop reads them; a text has at most one list of words.
use Rattle.std.proofs.Common.{◌≡◌, ℕ, ◌-◌, ◌<◌, ◌≤◌, List, [], ◌∷◌, ◌++◌, length, take, drop, Option, Some, None, refl, sym, ap, subst, ◌∙◌, arith, append_assoc, eqb, true, false}
use Rattle.std.proofs.lemmas.Bool.Decides.{Decides-eqb}
use Rattle.std.proofs.Math.Seq.{drop-append_seam}
use Rattle.std.proofs.lemmas.List.{take-append-drop, length-append, append-nil, length-drop}
use Rattle.p21_express.specs.Word.{Word}
use Rattle.p21_express.specs.Words.{Closes, EndsString, Front, UpperWords, closed, opens, closes, passes, doubled, white, line_remark, remark, name, integer, string, quoted, symbol, none, pass, word}
use Rattle.p21_express.specs.Lexer.{front_at}
use Rattle.p21_express.proofs.WordLemmas.{some_is}
use Rattle.p21_express.proofs.FrontLemmas.{front_sound, front_complete, front_less}

-- the rest stands at the end of the text
pub record EndsWith (text rest : List ℕ) : Type 0 where
  pub front : List ℕ
  pub parts : text ≡ front ++ rest

one_more : (b : ℕ) {text rest : List ℕ} → EndsWith text rest → EndsWith (b ∷ text) rest
one_more b e = record { front = b ∷ e.front; parts = ap (λ (v : List ℕ). b ∷ v) e.parts }

whole : (text : List ℕ) → EndsWith text text
whole text = record { front = []; parts = refl }

remark_ends : {depth : ℕ} {text rest : List ℕ} → Closes depth text rest → EndsWith text rest
remark_ends {text = text} closed = whole text
remark_ends (opens c) = one_more 40 (one_more 42 (remark_ends c))
remark_ends (closes c) = one_more 42 (one_more 41 (remark_ends c))
remark_ends (passes {b = b} o k c) = one_more b (remark_ends c)

string_ends : {text rest : List ℕ} → EndsString text rest → EndsWith text rest
string_ends {rest = rest} (closes g) = one_more 39 (whole rest)
string_ends (doubled e) = one_more 39 (one_more 39 (string_ends e))
string_ends (passes {b = b} n e) = one_more b (string_ends e)

front_ends : {text rest : List ℕ} {o : Option Word} → Front text o rest → EndsWith text rest
front_ends {rest = rest} (white {b = b} h) = one_more b (whole rest)
front_ends (line_remark body e all end) = one_more 45 (one_more 45 (record { front = body; parts = e }))
front_ends (remark c) = one_more 40 (one_more 42 (remark_ends c))
front_ends (name {b = b} {parts = parts} l e all stop) = one_more b (record { front = parts; parts = e })
front_ends (integer {b = b} digits l e all stop) = one_more b (record { front = digits; parts = e })
front_ends (string e) = one_more 39 (string_ends e)
front_ends (quoted {rest = rest} body e all) = one_more 34 (record { front = body ++ 34 ∷ []; parts = e ∙ sym (append_assoc body (34 ∷ []) rest) })
front_ends {rest = rest} (symbol {b = b} s) = one_more b (whole rest)

pub ends_at : (text rest : List ℕ) → EndsWith text rest → drop (length text - length rest) text ≡ rest
ends_at text rest e =
    let n : length (e.front ++ rest) - length rest ≡ length e.front = omega (arith, length-append e.front rest) in
    subst (λ (v : List ℕ). drop (length v - length rest) v ≡ rest) (sym e.parts) (rw n (drop-append_seam e.front rest))

behind_ends : (text rest : List ℕ) (at : ℕ) → EndsWith (drop at text) rest → EndsWith text rest
behind_ends text rest at e = record { front = take at text ++ e.front; parts = sym (take-append-drop at text) ∙ (ap (λ (v : List ℕ). take at text ++ v) e.parts ∙ sym (append_assoc (take at text) e.front rest)) }

-- `so_far` was read up to a place
pub record Scans (text : List ℕ) (at : ℕ) (so_far : List Word) : Type 0 where
  pub within : at ≤ length text
  pub forward : (ws : List Word) → UpperWords (drop at text) ws → UpperWords text (so_far ++ ws)
  pub backward : (ws : List Word) → UpperWords text ws → (vs : List Word) × (ws ≡ so_far ++ vs) × UpperWords (drop at text) vs

abbrev one_word : Option Word → List Word
one_word None = []
one_word (Some w) = w ∷ []

put : (text rest : List ℕ) (o : Option Word) (ws : List Word) → Front text o rest → UpperWords rest ws → UpperWords text (one_word o ++ ws)
put text rest None ws f u = pass f u
put text rest (Some w) ws f u = word f u

same_front : (text rest rest' : List ℕ) (o o' : Option Word) → Front text o rest → Front text o' rest' → ◌≡◌ {A = Option Word × List ℕ} (o, rest) (o', rest')
same_front text rest rest' o o' f g = some_is _ _ (sym (front_complete f) ∙ front_complete g)

no_front : (rest : List ℕ) (o : Option Word) → Front [] o rest → ⊥
no_front rest o f = absurd (let h = front_less f in omega arith)

taken : (text rest : List ℕ) (o : Option Word) (ws : List Word) → Front text o rest → UpperWords text ws → (vs : List Word) × (ws ≡ one_word o ++ vs) × UpperWords rest vs
taken text rest o ws f none = absurd (no_front rest o f)
taken text rest o ws f (pass {rest = rest'} g u) =
    let e = same_front text rest' rest None o g f in
    subst (λ (y : Option Word × List ℕ). (vs : List Word) × (ws ≡ one_word y.0 ++ vs) × UpperWords y.1 vs) e (ws, refl, u)
taken text rest o ws f (word {rest = rest'} {first = first} {words = words} g u) =
    let e = same_front text rest' rest (Some first) o g f in
    subst (λ (y : Option Word × List ℕ). (vs : List Word) × (ws ≡ one_word y.0 ++ vs) × UpperWords y.1 vs) e (words, refl, u)

scans_more : (text : List ℕ) (at : ℕ) (so_far : List Word) (o : Option Word) (rest : List ℕ) → Scans text at so_far → front_at (drop at text) ≡ Some (o, rest) → Scans text (length text - length rest) (so_far ++ one_word o)
scans_more text at so_far o rest s h =
    let f : Front (drop at text) o rest = front_sound (drop at text) (o, rest) h in
    let d : drop (length text - length rest) text ≡ rest = ends_at text rest (behind_ends text rest at (front_ends f)) in
    record {
      within = omega arith;
      forward = λ ws u. subst (λ (v : List Word). UpperWords text v) (sym (append_assoc so_far (one_word o) ws)) (s.forward (one_word o ++ ws) (put (drop at text) rest o ws f (subst (λ (v : List ℕ). UpperWords v ws) d u)));
      backward = λ ws u.
          let b = s.backward ws u in
          let t = taken (drop at text) rest o b.0 f b.2 in
          (t.0, b.1 ∙ (ap (λ (v : List Word). so_far ++ v) t.1 ∙ sym (append_assoc so_far (one_word o) t.0)), subst (λ (v : List ℕ). UpperWords v t.0) (sym d) t.2);
    }

pub scans_word : (text : List ℕ) (at : ℕ) (so_far : List Word) (w : Word) (rest : List ℕ) → Scans text at so_far → front_at (drop at text) ≡ Some (Some w, rest) → Scans text (length text - length rest) (so_far ++ w ∷ [])
scans_word text at so_far w rest s h = scans_more text at so_far (Some w) rest s h

pub scans_pass : (text : List ℕ) (at : ℕ) (so_far : List Word) (rest : List ℕ) → Scans text at so_far → front_at (drop at text) ≡ Some (None, rest) → Scans text (length text - length rest) so_far
scans_pass text at so_far rest s h = subst (λ (v : List Word). Scans text (length text - length rest) v) (append-nil so_far) (scans_more text at so_far None rest s h)

pub front_shorter : (text : List ℕ) (at : ℕ) (o : Option Word) (rest : List ℕ) → front_at (drop at text) ≡ Some (o, rest) → length text - (length text - length rest) < length text - at
front_shorter text at o rest h =
    let l = front_less (front_sound (drop at text) (o, rest) h) in
    omega (arith, l, length-drop at text)

nothing_left : (text : List ℕ) → length text ≡ 0 → UpperWords text []
nothing_left [] e = none
nothing_left (b ∷ text) e = absurd (omega arith)

pub scans_whole : (text : List ℕ) (at : ℕ) (so_far : List Word) → Scans text at so_far → at ≡ length text → UpperWords text so_far
scans_whole text at so_far s e = subst (λ (v : List Word). UpperWords text v) (append-nil so_far) (s.forward [] (nothing_left (drop at text) (simp length-drop (omega arith))))

none_there : (text : List ℕ) (ws : List Word) → front_at text ≡ None → 0 < length text → UpperWords text ws → ⊥
none_there text ws h lt none = omega arith
none_there text ws h lt (pass f u) = absurd (let e = sym h ∙ front_complete f in cc)
none_there text ws h lt (word f u) = absurd (let e = sym h ∙ front_complete f in cc)

pub scans_broken : (text : List ℕ) (at : ℕ) (so_far : List Word) → Scans text at so_far → front_at (drop at text) ≡ None → (at ≡ length text → ⊥) → (ws : List Word) → UpperWords text ws → ⊥
scans_broken text at so_far s h n ws u =
    let b = s.backward ws u in
    let w = s.within in
    none_there (drop at text) b.0 h (simp length-drop (omega arith)) b.2

-- a text has at most one list of words
pub words_once : {text : List ℕ} {vs ws : List Word} → UpperWords text vs → UpperWords text ws → vs ≡ ws
words_once {ws = ws} none none = refl
words_once none (pass f u) = absurd (no_front _ _ f)
words_once none (word f u) = absurd (no_front _ _ f)
words_once {text} {ws = ws} (pass {rest = rest} f u) v = let t = taken text rest None ws f v in words_once u t.2 ∙ sym t.1
words_once {text} {ws = ws} (word {rest = rest} {first = first} f u) v = let t = taken text rest (Some first) ws f v in ap (λ (zs : List Word). first ∷ zs) (words_once u t.2) ∙ sym t.1

pub behind_within : (text : List ℕ) (at : ℕ) (o : Option Word) (rest : List ℕ) → front_at (drop at text) ≡ Some (o, rest) → length rest ≤ length text
behind_within text at o rest h =
    let l = front_less (front_sound (drop at text) (o, rest) h) in
    omega (arith, l, length-drop at text)

pub none_is : {T : Type 0} (o : Option T) → ((x : T) → o ≡ Some x → ⊥) → o ≡ None
none_is None h = refl
none_is (Some x) h = absurd (h x refl)

pub wrong_place : (m n : ℕ) → eqb m n ≡ false → m ≡ n → ⊥
wrong_place m n e h = let k : eqb m n ≡ true = (Decides-eqb m n).1 h in absurd (let f : true ≡ false = sym k ∙ e in cc)
