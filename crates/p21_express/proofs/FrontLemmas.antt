-- What stands at the front of a text: what is read is there, and what is there is read.
use Rattle.std.proofs.Common.{◌≡◌, ◌≢◌, ℕ, zero, suc, ◌<◌, ◌≤◌, inl, Bool, true, false, cond, not, List, [], ◌∷◌, ◌++◌, length, take, drop, Option, Some, None, refl, sym, ap, subst, ◌∙◌, arith, rules, eqb, leb, ◌&&◌, one-add}
use borrow.Author.Tests.{tests}
use Rattle.std.specs.List.{AllByRecursion, prefix_len}
use Rattle.std.proofs.Math.Seq.{take-append_seam, drop-append_seam}
use Rattle.std.proofs.lemmas.List.{take-append-drop, length-append}
use Rattle.std.proofs.lemmas.Bool.{eqb-true}
use Rattle.std.proofs.lemmas.Bool.Decides.{Decides-eqb}
use Rattle.p21_express.specs.Word.{Word}
use Rattle.p21_express.specs.Word as w
use Rattle.p21_express.specs.Words.{IsWhite, IsLetter, IsDigit, IsNamePart, GoesOnWithout, IsAtLineEnd, GoesOnWithPair, Closes, EndsString, Front, number_of, closed, opens, closes, passes, doubled, white, line_remark, remark, name, integer, string, quoted, symbol}
use Rattle.p21_express.specs.Lexer as lex
use Rattle.p21_express.specs.Lexer.{string_by, string_end, opens_remark, closes_remark, remark_by, remark_end, with_word, with_none, quoted_end, behind_first, name_front, integer_front, line_front, other_front, front_of, front_at, not_line_end, not_quote}
use Rattle.p21_express.proofs.WordLemmas.{some_is}
use Rattle.p21_express.proofs.RunLemmas.{run_holds, run_stops, run_len}

-- ---- tests on bytes

white_is : (b : ℕ) → lex.white b ≡ true → IsWhite b
white_is b h = grind (arith, tests)

is_white : (b : ℕ) → IsWhite b → lex.white b ≡ true
is_white b h = grind (arith, tests)

letter_is : (b : ℕ) → lex.letter b ≡ true → IsLetter b
letter_is b h = search (rules, tests)

is_letter : (b : ℕ) → IsLetter b → lex.letter b ≡ true
is_letter b h = grind (arith, tests)

digit_is : (b : ℕ) → lex.digit b ≡ true → IsDigit b
digit_is b h = search (rules, tests)

is_digit : (b : ℕ) → IsDigit b → lex.digit b ≡ true
is_digit b h = grind (arith, tests)

part_is : (b : ℕ) → lex.part b ≡ true → IsNamePart b
part_is b h = grind (arith, tests)

is_part : (b : ℕ) → IsNamePart b → lex.part b ≡ true
is_part b h = grind (arith, tests)

eq_is : (b c : ℕ) → eqb b c ≡ true → b ≡ c
eq_is b c e = eqb-true b c e

is_eq : (b : ℕ) → eqb b b ≡ true
is_eq b = (Decides-eqb b b).1 refl

ne_is : (b c : ℕ) → eqb b c ≡ false → b ≢ c
ne_is b c e h = let k : eqb b c ≡ true = (Decides-eqb b c).1 h in absurd (let f : true ≡ false = sym k ∙ e in cc)

is_ne_by : (b c : ℕ) (t : Bool) → eqb b c ≡ t → b ≢ c → eqb b c ≡ false
is_ne_by b c true e h = absurd (h (eqb-true b c e))
is_ne_by b c false e h = e

is_ne : (b c : ℕ) → b ≢ c → eqb b c ≡ false
is_ne b c h = is_ne_by b c (eqb b c) refl h

and_true : (a b : Bool) → (a && b) ≡ true → (a ≡ true) × (b ≡ true)
and_true true b e = (refl, e)
and_true false b e = absurd cc

pair_is : (a b b' c c' : ℕ) → ((eqb b b' && eqb c c') ≡ true) → (b ≡ b') × (c ≡ c')
pair_is a b b' c c' e = let p = and_true (eqb b b') (eqb c c') e in (eq_is b b' p.0, eq_is c c' p.1)

and_false : (a b : Bool) → ((a ≡ true) × (b ≡ true) → ⊥) → (a && b) ≡ false
and_false true true f = absurd (f (refl, refl))
and_false true false f = refl
and_false false b f = refl

by_cond : {T : Type 0} (t : Bool) (y z : Option T) (x : T) (P : Type 0) → cond t y z ≡ Some x → (t ≡ true → y ≡ Some x → P) → (t ≡ false → z ≡ Some x → P) → P
by_cond true y z x P h f g = f refl h
by_cond false y z x P h f g = g refl h

-- ---- strings

string_step : (b c : ℕ) (text rest : List ℕ) (t u : Bool) → eqb b 39 ≡ t → eqb c 39 ≡ u → (string_end text ≡ Some rest → EndsString text rest) → (string_end (c ∷ text) ≡ Some rest → EndsString (c ∷ text) rest) → string_by t u (c ∷ text) (string_end text) (string_end (c ∷ text)) ≡ Some rest → EndsString (b ∷ c ∷ text) rest
string_step b c text rest true true e f one two h = rw (eq_is b 39 e, eq_is c 39 f) (doubled (one h))
string_step b c text rest true false e f one two h = subst (λ (v : List ℕ). EndsString (b ∷ c ∷ text) v) (some_is _ _ h) (rw (eq_is b 39 e) (closes (ne_is c 39 f)))
string_step b c text rest false u e f one two h = passes (ne_is b 39 e) (two h)

string_last : (b : ℕ) (rest : List ℕ) (t : Bool) → eqb b 39 ≡ t → cond t (Some []) None ≡ Some rest → EndsString (b ∷ []) rest
string_last b rest true e h = subst (λ (v : List ℕ). EndsString (b ∷ []) v) (some_is _ _ h) (rw (eq_is b 39 e) (closes tt))
string_last b rest false e h = absurd cc

pub string_sound : (text rest : List ℕ) → string_end text ≡ Some rest → EndsString text rest
unfolding string_end
string_sound [] rest h = absurd cc
string_sound (b ∷ []) rest h = string_last b rest (eqb b 39) refl h
string_sound (b ∷ c ∷ text) rest h = string_step b c text rest (eqb b 39) (eqb c 39) refl refl (string_sound text rest) (string_sound (c ∷ text) rest) h

string_close : (rest : List ℕ) → GoesOnWithout (λ b. b ≡ 39) rest → string_end (39 ∷ rest) ≡ Some rest
unfolding string_end
string_close [] g = refl
string_close (c ∷ rest) g = rw (is_ne c 39 g) refl

string_pass : (b : ℕ) (text rest : List ℕ) → b ≢ 39 → EndsString text rest → string_end text ≡ Some rest → string_end (b ∷ text) ≡ Some rest
unfolding string_end
string_pass b [] rest n e h = absurd cc
string_pass b (c ∷ text) rest n e h = rw (is_ne b 39 n) h

string_complete : {text rest : List ℕ} → EndsString text rest → string_end text ≡ Some rest
unfolding string_end
string_complete {rest = rest} (closes g) = string_close rest g
string_complete (doubled e) = string_complete e
string_complete {rest = rest} (passes {b = b} {text = text} n e) = string_pass b text rest n e (string_complete e)

string_less : {text rest : List ℕ} → EndsString text rest → length rest < length text
string_less (closes g) = omega arith
string_less (doubled e) = let h = string_less e in omega arith
string_less (passes n e) = let h = string_less e in omega arith

-- ---- remarks

no_opening : (b c : ℕ) (text : List ℕ) → opens_remark b c ≡ false → ¬ (GoesOnWithPair 40 42 (b ∷ c ∷ text))
no_opening b c text e g = let p : b ≡ 40 = cc in let q : c ≡ 42 = cc in absurd (let f : opens_remark 40 42 ≡ false = subst (λ (v : ℕ). opens_remark 40 v ≡ false) q (subst (λ (v : ℕ). opens_remark v c ≡ false) p e) in cc)

no_closing : (b c : ℕ) (text : List ℕ) → closes_remark b c ≡ false → ¬ (GoesOnWithPair 42 41 (b ∷ c ∷ text))
no_closing b c text e g = let p : b ≡ 42 = cc in let q : c ≡ 41 = cc in absurd (let f : closes_remark 42 41 ≡ false = subst (λ (v : ℕ). closes_remark 42 v ≡ false) q (subst (λ (v : ℕ). closes_remark v c ≡ false) p e) in cc)

remark_step : (depth b c : ℕ) (text rest : List ℕ) (o k : Bool) → opens_remark b c ≡ o → closes_remark b c ≡ k → ((d : ℕ) → remark_end d text ≡ Some rest → Closes (suc d) text rest) → (remark_end depth (c ∷ text) ≡ Some rest → Closes (suc depth) (c ∷ text) rest) → remark_by o k depth text (λ d. remark_end d text) (remark_end depth (c ∷ text)) ≡ Some rest → Closes (suc depth) (b ∷ c ∷ text) rest
remark_step depth b c text rest true k e f one two h = let p = pair_is 0 b 40 c 42 e in rw (p.0, p.1) (opens (one (suc depth) h))
remark_step zero b c text rest false true e f one two h = let p = pair_is 0 b 42 c 41 f in rw (p.0, p.1, some_is text rest h) (closes closed)
remark_step (suc depth) b c text rest false true e f one two h = let p = pair_is 0 b 42 c 41 f in rw (p.0, p.1) (closes (one depth h))
remark_step depth b c text rest false false e f one two h = passes (no_opening b c text e) (no_closing b c text f) (two h)

pub remark_sound : (depth : ℕ) (text rest : List ℕ) → remark_end depth text ≡ Some rest → Closes (suc depth) text rest
unfolding remark_end
remark_sound depth [] rest h = absurd cc
remark_sound depth (b ∷ []) rest h = absurd cc
remark_sound depth (b ∷ c ∷ text) rest h = remark_step depth b c text rest (opens_remark b c) (closes_remark b c) refl refl (λ d. remark_sound d text rest) (remark_sound depth (c ∷ text) rest) h

remark_pass : (depth b : ℕ) (text rest : List ℕ) → ¬ (GoesOnWithPair 40 42 (b ∷ text)) → ¬ (GoesOnWithPair 42 41 (b ∷ text)) → remark_end depth text ≡ Some rest → remark_end depth (b ∷ text) ≡ Some rest
unfolding remark_end
remark_pass depth b [] rest o k h = absurd cc
remark_pass depth b (c ∷ text) rest o k h =
    let no : opens_remark b c ≡ false = and_false (eqb b 40) (eqb c 42) (λ p. o (text, rw (eq_is b 40 p.0, eq_is c 42 p.1) refl)) in
    let nk : closes_remark b c ≡ false = and_false (eqb b 42) (eqb c 41) (λ p. k (text, rw (eq_is b 42 p.0, eq_is c 41 p.1) refl)) in
    rw (no, nk) h

remark_complete : {depth : ℕ} {text rest : List ℕ} → Closes (suc depth) text rest → remark_end depth text ≡ Some rest
unfolding remark_end
remark_complete (opens c) = remark_complete c
remark_complete (closes closed) = refl
remark_complete (closes (opens c)) = remark_complete (opens c)
remark_complete (closes (closes c)) = remark_complete (closes c)
remark_complete (closes (passes o k c)) = remark_complete (passes o k c)
remark_complete {depth} {rest = rest} (passes {b = b} {text = text} o k c) = remark_pass depth b text rest o k (remark_complete c)

remark_less : {depth : ℕ} {text rest : List ℕ} → Closes depth text rest → length rest ≤ length text
remark_less closed = omega arith
remark_less (opens c) = let h = remark_less c in omega arith
remark_less (closes c) = let h = remark_less c in omega arith
remark_less (passes o k c) = let h = remark_less c in omega arith

-- ---- lines and quotes

not_true : (t : Bool) → not t ≡ true → t ≡ false
not_true true e = absurd cc
not_true false e = refl

line_is : (b : ℕ) → not_line_end b ≡ true → b ≢ 10
line_is b e = ne_is b 10 (not_true (eqb b 10) e)

is_line : (b : ℕ) → b ≢ 10 → not_line_end b ≡ true
is_line b n = rw (is_ne b 10 n) refl

quote_is : (b : ℕ) → not_quote b ≡ true → b ≢ 34
quote_is b e = ne_is b 34 (not_true (eqb b 34) e)

is_quote : (b : ℕ) → b ≢ 34 → not_quote b ≡ true
is_quote b n = rw (is_ne b 34 n) refl

line_end : (text : List ℕ) → GoesOnWithout (λ b. b ≢ 10) text → IsAtLineEnd text
line_end [] g = tt
line_end (b ∷ text) g = line_end_by b (eqb b 10) refl g
  where
    line_end_by : (b : ℕ) (t : Bool) → eqb b 10 ≡ t → ¬ (b ≢ 10) → b ≡ 10
    line_end_by b true e g = eq_is b 10 e
    line_end_by b false e g = absurd (g (ne_is b 10 e))

end_line : (text : List ℕ) → IsAtLineEnd text → GoesOnWithout (λ b. b ≢ 10) text
end_line [] e = tt
end_line (b ∷ text) e = λ n. n e

quoted_parts : (text rest : List ℕ) → quoted_end text ≡ Some rest → text ≡ take (prefix_len not_quote text) text ++ 34 ∷ rest
quoted_parts text rest h =
    let stop = run_stops (λ b. b ≢ 34) not_quote is_quote text in
    quoted_by text (take (prefix_len not_quote text) text) (drop (prefix_len not_quote text) text) rest (sym (take-append-drop (prefix_len not_quote text) text)) stop h
  where
    quote_by : (b : ℕ) (t : Bool) → eqb b 34 ≡ t → ¬ (b ≢ 34) → b ≡ 34
    quote_by b true e g = eq_is b 34 e
    quote_by b false e g = absurd (g (ne_is b 34 e))

    quoted_by : (text front behind rest : List ℕ) → text ≡ front ++ behind → GoesOnWithout (λ b. b ≢ 34) behind → behind_first behind ≡ Some rest → text ≡ front ++ 34 ∷ rest
    quoted_by text front [] rest e g h = absurd cc
    quoted_by text front (b ∷ behind) rest e g h = e ∙ ap (λ (v : List ℕ). front ++ v) (rw (quote_by b (eqb b 34) refl g, some_is behind rest h) refl)

quoted_complete : (body rest : List ℕ) → AllByRecursion (λ b. b ≢ 34) body → quoted_end (body ++ 34 ∷ rest) ≡ Some rest
quoted_complete body rest all =
    let n : prefix_len not_quote (body ++ 34 ∷ rest) ≡ length body = run_len (λ b. b ≢ 34) not_quote quote_is is_quote body (34 ∷ rest) all (λ f. f refl) in
    rw (n, drop-append_seam body (34 ∷ rest)) refl

-- ---- the front

begins_pair : (b : ℕ) (text : List ℕ) → lex.begins b text ≡ true → text ≡ b ∷ drop 1 text
begins_pair b [] e = absurd cc
begins_pair b (c ∷ text) e = rw (eq_is c b e) refl

symbol_sound : (b : ℕ) (text : List ℕ) (x : Option Word × List ℕ) → lex.letter b ≡ false → lex.digit b ≡ false → eqb b 39 ≡ false → eqb b 34 ≡ false → (eqb b 45 && lex.begins 45 text) ≡ false → (eqb b 40 && lex.begins 42 text) ≡ false → other_front b text ≡ Some x → Front (b ∷ text) x.0 x.1
symbol_sound b text x l d a q m r h =
    by_cond (leb 33 b && leb b 126) _ _ x (Front (b ∷ text) x.0 x.1) h
    (λ e k. subst (λ (y : Option Word × List ℕ). Front (b ∷ text) y.0 y.1) (some_is _ _ k) (symbol (record {
      low = (let p = and_true (leb 33 b) (leb b 126) e in grind (arith, tests));
      high = (let p = and_true (leb 33 b) (leb b 126) e in grind (arith, tests));
      no_letter = λ i. absurd (let f : true ≡ false = sym (is_letter b i) ∙ l in cc);
      no_digit = λ i. absurd (let f : true ≡ false = sym (is_digit b i) ∙ d in cc);
      no_apostrophe = ne_is b 39 a;
      no_quote = ne_is b 34 q;
      no_line_remark = no_pair b 45 45 text m;
      no_remark = no_pair b 40 42 text r;
    })))
    (λ e k. absurd cc)
  where
    no_pair : (b c d : ℕ) (text : List ℕ) → (eqb b c && lex.begins d text) ≡ false → ¬ (GoesOnWithPair c d (b ∷ text))
    no_pair b c d [] e g = absurd (let f : b ∷ [] ≡ c ∷ d ∷ g.0 = g.1 in cc)
    no_pair b c d (t ∷ text) e g =
        let p : b ≡ c = cc in
        let q : t ≡ d = cc in
        absurd (let f : (eqb b c && eqb t d) ≡ true = rw ((Decides-eqb b c).1 p, (Decides-eqb t d).1 q) refl in let k : true ≡ false = sym f ∙ e in cc)

name_sound : (b : ℕ) (text : List ℕ) (x : Option Word × List ℕ) → IsLetter b → name_front (b ∷ text) ≡ Some x → Front (b ∷ text) x.0 x.1
name_sound b text x l h =
    let p : lex.part b ≡ true = is_part b (inl l) in
    let n : prefix_len lex.part (b ∷ text) ≡ suc (prefix_len lex.part text) = rw p (one-add (prefix_len lex.part text)) in
    let e : (Some (w.name (b ∷ take (prefix_len lex.part text) text)), drop (prefix_len lex.part text) text) ≡ x = sym (ap (λ (k : ℕ). name_pair (take k (b ∷ text)) (drop k (b ∷ text))) n) ∙ some_is _ _ h in
    subst (λ (y : Option Word × List ℕ). Front (b ∷ text) y.0 y.1) e (name l (sym (take-append-drop (prefix_len lex.part text) text)) (run_holds IsNamePart lex.part part_is text) (run_stops IsNamePart lex.part is_part text))
  where
    name_pair : List ℕ → List ℕ → Option Word × List ℕ
    name_pair n rest = (Some (w.name n), rest)

abbrev integer_pair : List ℕ → List ℕ → Option Word × List ℕ
integer_pair ds rest = (Some (w.integer (number_of ds)), rest)

integer_sound : (b : ℕ) (text : List ℕ) (x : Option Word × List ℕ) → IsDigit b → integer_front (b ∷ text) ≡ Some x → Front (b ∷ text) x.0 x.1
integer_sound b text x l h =
    let p : lex.digit b ≡ true = is_digit b l in
    let n : prefix_len lex.digit (b ∷ text) ≡ suc (prefix_len lex.digit text) = rw p (one-add (prefix_len lex.digit text)) in
    let e : (Some (w.integer (number_of (b ∷ take (prefix_len lex.digit text) text))), drop (prefix_len lex.digit text) text) ≡ x = sym (ap (λ (k : ℕ). integer_pair (take k (b ∷ text)) (drop k (b ∷ text))) n) ∙ some_is _ _ h in
    subst (λ (y : Option Word × List ℕ). Front (b ∷ text) y.0 y.1) e (integer (take (prefix_len lex.digit text) text) l (sym (take-append-drop (prefix_len lex.digit text) text)) (run_holds IsDigit lex.digit digit_is text) (run_stops IsDigit lex.digit is_digit text))

with_word_some : (v : Word) (r : Option (List ℕ)) (x : Option Word × List ℕ) → with_word v r ≡ Some x → (rest : List ℕ) × (r ≡ Some rest) × ((Some v, rest) ≡ x)
with_word_some v None x h = absurd cc
with_word_some v (Some rest) x h = (rest, refl, some_is _ _ h)

with_none_some : (r : Option (List ℕ)) (x : Option Word × List ℕ) → with_none r ≡ Some x → (rest : List ℕ) × (r ≡ Some rest) × ((None, rest) ≡ x)
with_none_some None x h = absurd cc
with_none_some (Some rest) x h = (rest, refl, some_is _ _ h)

abbrev none_pair : List ℕ → Option Word × List ℕ
none_pair rest = (None, rest)

line_sound : (b : ℕ) (text : List ℕ) (x : Option Word × List ℕ) → (eqb b 45 && lex.begins 45 text) ≡ true → line_front text ≡ Some x → Front (b ∷ text) x.0 x.1
line_sound b text x e h =
    let p = and_true (eqb b 45) (lex.begins 45 text) e in
    let t : text ≡ 45 ∷ drop 1 text = begins_pair 45 text p.1 in
    line_at b (drop 1 text) text x (eq_is b 45 p.0) t h
  where
    line_at : (b : ℕ) (behind text : List ℕ) (x : Option Word × List ℕ) → b ≡ 45 → text ≡ 45 ∷ behind → line_front text ≡ Some x → Front (b ∷ text) x.0 x.1
    line_at b behind text x p t h =
        let k : line_front (45 ∷ behind) ≡ Some x = subst (λ (v : List ℕ). line_front v ≡ Some x) t h in
        let n : prefix_len not_line_end (45 ∷ behind) ≡ suc (prefix_len not_line_end behind) = one-add (prefix_len not_line_end behind) in
        let e : (None, drop (prefix_len not_line_end behind) behind) ≡ x = sym (ap (λ (k : ℕ). none_pair (drop k (45 ∷ behind))) n) ∙ some_is _ _ k in
        rw (p, t) (subst (λ (y : Option Word × List ℕ). Front (45 ∷ 45 ∷ behind) y.0 y.1) e (line_remark (take (prefix_len not_line_end behind) behind) (sym (take-append-drop (prefix_len not_line_end behind) behind)) (run_holds (λ b. b ≢ 10) not_line_end line_is behind) (line_end (drop (prefix_len not_line_end behind) behind) (run_stops (λ b. b ≢ 10) not_line_end is_line behind))))

remark_front : (b : ℕ) (text : List ℕ) (x : Option Word × List ℕ) → (eqb b 40 && lex.begins 42 text) ≡ true → with_none (remark_end 0 (drop 1 text)) ≡ Some x → Front (b ∷ text) x.0 x.1
remark_front b text x e h =
    let p = and_true (eqb b 40) (lex.begins 42 text) e in
    let r = with_none_some (remark_end 0 (drop 1 text)) x h in
    rw (eq_is b 40 p.0) (subst (λ (v : List ℕ). Front (40 ∷ v) x.0 x.1) (sym (begins_pair 42 text p.1)) (subst (λ (y : Option Word × List ℕ). Front (40 ∷ 42 ∷ drop 1 text) y.0 y.1) r.2 (remark (remark_sound 0 (drop 1 text) r.0 r.1))))

string_front : (b : ℕ) (text : List ℕ) (x : Option Word × List ℕ) → b ≡ 39 → with_word w.string (string_end text) ≡ Some x → Front (b ∷ text) x.0 x.1
string_front b text x e h =
    let r = with_word_some w.string (string_end text) x h in
    rw e (subst (λ (y : Option Word × List ℕ). Front (39 ∷ text) y.0 y.1) r.2 (string (string_sound text r.0 r.1)))

quoted_front : (b : ℕ) (text : List ℕ) (x : Option Word × List ℕ) → b ≡ 34 → with_word w.string (quoted_end text) ≡ Some x → Front (b ∷ text) x.0 x.1
quoted_front b text x e h =
    let r = with_word_some w.string (quoted_end text) x h in
    rw e (subst (λ (y : Option Word × List ℕ). Front (34 ∷ text) y.0 y.1) r.2 (quoted (take (prefix_len not_quote text) text) (quoted_parts text r.0 r.1) (run_holds (λ b. b ≢ 34) not_quote quote_is text)))

pub front_sound : (text : List ℕ) (x : Option Word × List ℕ) → front_at text ≡ Some x → Front text x.0 x.1
unfolding front_of
front_sound [] x h = absurd cc
front_sound (b ∷ text) x h =
    by_cond (lex.white b) _ _ x (Front (b ∷ text) x.0 x.1) h (λ e k. subst (λ (y : Option Word × List ℕ). Front (b ∷ text) y.0 y.1) (some_is _ _ k) (white (white_is b e))) (λ e1 h1.
    by_cond (lex.letter b) _ _ x (Front (b ∷ text) x.0 x.1) h1 (λ e k. name_sound b text x (letter_is b e) k) (λ e2 h2.
    by_cond (lex.digit b) _ _ x (Front (b ∷ text) x.0 x.1) h2 (λ e k. integer_sound b text x (digit_is b e) k) (λ e3 h3.
    by_cond (eqb b 39) _ _ x (Front (b ∷ text) x.0 x.1) h3 (λ e k. string_front b text x (eq_is b 39 e) k) (λ e4 h4.
    by_cond (eqb b 34) _ _ x (Front (b ∷ text) x.0 x.1) h4 (λ e k. quoted_front b text x (eq_is b 34 e) k) (λ e5 h5.
    by_cond (eqb b 45 && lex.begins 45 text) _ _ x (Front (b ∷ text) x.0 x.1) h5 (λ e k. line_sound b text x e k) (λ e6 h6.
    by_cond (eqb b 40 && lex.begins 42 text) _ _ x (Front (b ∷ text) x.0 x.1) h6 (λ e k. remark_front b text x e k) (λ e7 h7.
    symbol_sound b text x e2 e3 e4 e5 e6 e7 h7)))))))

-- ---- what is there is read

not_white : (b : ℕ) → 33 ≤ b → lex.white b ≡ false
not_white b h = grind (arith, tests)

letter_facts : (b : ℕ) → IsLetter b → (lex.white b ≡ false) × (lex.letter b ≡ true)
letter_facts b l = (not_white b (omega arith), is_letter b l)

digit_facts : (b : ℕ) → IsDigit b → (lex.white b ≡ false) × (lex.letter b ≡ false) × (lex.digit b ≡ true)
digit_facts b l = (not_white b (omega arith), grind (arith, tests), is_digit b l)

false_by : (t : Bool) → (t ≡ true → ⊥) → t ≡ false
false_by true f = absurd (f refl)
false_by false f = refl

name_complete : (b : ℕ) (parts rest : List ℕ) → IsLetter b → AllByRecursion IsNamePart parts → GoesOnWithout IsNamePart rest → name_front (b ∷ (parts ++ rest)) ≡ Some (Some (w.name (b ∷ parts)), rest)
name_complete b parts rest l all stop =
    let n : prefix_len lex.part (b ∷ (parts ++ rest)) ≡ length (b ∷ parts) = run_len IsNamePart lex.part part_is is_part (b ∷ parts) rest (inl l, all) stop in
    rw (n, take-append_seam (b ∷ parts) rest, drop-append_seam (b ∷ parts) rest) refl

integer_complete : (b : ℕ) (digits rest : List ℕ) → IsDigit b → AllByRecursion IsDigit digits → GoesOnWithout IsDigit rest → integer_front (b ∷ (digits ++ rest)) ≡ Some (Some (w.integer (number_of (b ∷ digits))), rest)
integer_complete b digits rest l all stop =
    let n : prefix_len lex.digit (b ∷ (digits ++ rest)) ≡ length (b ∷ digits) = run_len IsDigit lex.digit digit_is is_digit (b ∷ digits) rest (l, all) stop in
    ap (λ (k : ℕ). Some (integer_pair (take k (b ∷ (digits ++ rest))) (drop k (b ∷ (digits ++ rest))))) n ∙ (ap (λ (ts : List ℕ). Some (integer_pair ts (drop (length (b ∷ digits)) (b ∷ (digits ++ rest))))) (take-append_seam (b ∷ digits) rest) ∙ ap (λ (r : List ℕ). Some (integer_pair (b ∷ digits) r)) (drop-append_seam (b ∷ digits) rest))

front_letter : (b : ℕ) (text : List ℕ) → IsLetter b → front_of b text ≡ name_front (b ∷ text)
unfolding front_of
front_letter b text l = let f = letter_facts b l in rw (f.0, f.1) refl

front_digit : (b : ℕ) (text : List ℕ) → IsDigit b → front_of b text ≡ integer_front (b ∷ text)
unfolding front_of
front_digit b text l = let f = digit_facts b l in rw (f.0, f.1, f.2) refl

line_complete : (body rest : List ℕ) → AllByRecursion (λ b. b ≢ 10) body → IsAtLineEnd rest → line_front (45 ∷ (body ++ rest)) ≡ Some (None, rest)
line_complete body rest all end =
    let n : prefix_len not_line_end (45 ∷ (body ++ rest)) ≡ length (45 ∷ body) = run_len (λ b. b ≢ 10) not_line_end line_is is_line (45 ∷ body) rest ((λ e. absurd cc), all) (end_line rest end) in
    rw (n, drop-append_seam (45 ∷ body) rest) refl

no_begin : (b c d : ℕ) (text : List ℕ) → ¬ (GoesOnWithPair c d (b ∷ text)) → (eqb b c && lex.begins d text) ≡ false
no_begin b c d [] g = and_false (eqb b c) false (λ p. absurd cc)
no_begin b c d (t ∷ text) g = and_false (eqb b c) (eqb t d) (λ p. g (text, rw (eq_is b c p.0, eq_is t d p.1) refl))

pub front_complete : {text rest : List ℕ} {o : Option Word} → Front text o rest → front_at text ≡ Some (o, rest)
unfolding front_of
front_complete (white {b = b} h) = rw (is_white b h) refl
front_complete (line_remark {text = text} {rest = rest} body e all end) = rw e (line_complete body rest all end)
front_complete (remark c) = rw (remark_complete c) refl
front_complete (name {b = b} {text = text} {parts = parts} {rest = rest} l e all stop) = front_letter b text l ∙ rw e (name_complete b parts rest l all stop)
front_complete (integer {b = b} {text = text} {rest = rest} digits l e all stop) = front_digit b text l ∙ rw e (integer_complete b digits rest l all stop)
front_complete (string e) = rw (string_complete e) refl
front_complete (quoted {rest = rest} body e all) = rw (e, quoted_complete body rest all) refl
front_complete (symbol {b = b} {rest = rest} s) =
    let l : lex.letter b ≡ false = false_by (lex.letter b) (λ e. s.no_letter (letter_is b e)) in
    let d : lex.digit b ≡ false = false_by (lex.digit b) (λ e. s.no_digit (digit_is b e)) in
    let r : (leb 33 b && leb b 126) ≡ true = grind (arith, tests) in
    rw (not_white b s.low, l, d, is_ne b 39 s.no_apostrophe, is_ne b 34 s.no_quote, no_begin b 45 45 rest s.no_line_remark, no_begin b 40 42 rest s.no_remark, r) refl

pub front_less : {text rest : List ℕ} {o : Option Word} → Front text o rest → length rest < length text
front_less (white h) = omega arith
front_less (line_remark {rest = rest} body e all end) = rw e (omega (arith, length-append body rest))
front_less (remark c) = let h = remark_less c in omega arith
front_less (name {parts = parts} {rest = rest} l e all stop) = rw e (omega (arith, length-append parts rest))
front_less (integer {rest = rest} digits l e all stop) = rw e (omega (arith, length-append digits rest))
front_less (string e) = let h = string_less e in omega arith
front_less (quoted {rest = rest} body e all) = rw e (omega (arith, length-append body (34 ∷ rest)))
front_less (symbol s) = omega arith
