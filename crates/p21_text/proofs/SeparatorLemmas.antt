-- How many separators a text begins with, one at a time.
use Rattle.std.proofs.Common.{◌≡◌, ℕ, zero, suc, zero-le, add-zero, ◌+◌, ◌<◌, ◌≤◌, inl, inr, List, [], ◌∷◌, ◌++◌, length, get_or, take, drop, refl, sym, ap, ◌∙◌, subst, arith, append_assoc}
use Rattle.std.proofs.lemmas.List.{length-append, length-drop, length-take-le, append_cancel_left, drop_more, get_or_append_left, get_or-append-add}
use Rattle.std.proofs.lemmas.Bool.{cases_lt}
use Rattle.std.proofs.Math.Seq.{take-add}
use Rattle.memchr.specs.Find.{OccursAt, NoneBefore}
use Rattle.p21_text.specs.Separators.{IsWhite, IsComment, IsSeparators}
use Rattle.p21_text.specs.Separators as separators
use Rattle.p21_text.specs.Tokens.{Passes}
use Rattle.p21_text.specs.Gaps.{IsUnit, HasNoUnit, UnitIs}
use Rattle.p21_text.specs.Gaps as unit
use Rattle.p21_text.proofs.Splits.{cut, take_front, front_fits, same_front}

-- `*/`
abbrev pub mark : List ℕ
mark = 42 ∷ 47 ∷ []

first_two : (r : List ℕ) (j : ℕ) → j < 2 → get_or (42 ∷ 47 ∷ r) j 0 ≡ get_or mark j 0
first_two r zero h = refl
first_two r (suc zero) h = refl
first_two r (suc (suc j)) h = absurd (omega arith)

-- where the comment's end stands in its body, it stands in any text that goes on with that body
occurs_in : (a r b s : List ℕ) → (a ++ mark) ++ r ≡ (b ++ mark) ++ s → length a < length b → OccursAt (b ++ mark) mark (length a)
occurs_in a r b s e h =
    let left : ((a ++ mark) ++ r) ≡ a ++ (42 ∷ 47 ∷ r) = append_assoc a mark r in
    let fits : length a + 2 ≤ length (b ++ mark) = rw length-append (omega arith) in
    let reads : (j : ℕ) → j < 2 → get_or (b ++ mark) (length a + j) 0 ≡ get_or mark j 0
    = λ j below.
    let inside : length a + j < length (b ++ mark) = omega arith in
    sym (get_or_append_left (b ++ mark) s 0 (length a + j) inside) ∙ ap (λ t. get_or t (length a + j) 0) (sym e ∙ left) ∙ get_or-append-add a (42 ∷ 47 ∷ r) j 0 ∙ first_two r j below in
    record { fits = fits; reads = reads }

-- two bodies that end at the first `*/` have one length
body_shorter : (a r b s : List ℕ) → ((k : ℕ) → OccursAt (b ++ mark) mark k → k ≡ length b) → (a ++ mark) ++ r ≡ (b ++ mark) ++ s → length b ≤ length a
body_shorter a r b s once e =
    elim (cases_lt (length a) (length b)) [
      | inl h ↦ absurd (omega (arith, once (length a) (occurs_in a r b s e h)))
      | inr h ↦ h
    ]

white_slash : (b : ℕ) → IsWhite b → b ≡ 47 → ⊥
white_slash b (inl h) e = omega arith
white_slash b (inr h) e = omega arith

-- one text begins with one separator
pub unit_unique : (f g r s : List ℕ) → IsUnit f → IsUnit g → f ++ r ≡ g ++ s → f ≡ g
unit_unique _ _ r s (unit.white u) (unit.white v) e = cc
unit_unique _ _ r s (unit.white {b} u) (unit.comment {text} v) e =
    let first : b ≡ 47 = (let f : b ∷ r ≡ 47 ∷ ((42 ∷ (v.body ++ mark)) ++ s) = e ∙ ap (λ t. t ++ s) v.spelled in cc) in
    absurd (white_slash b u first)
unit_unique _ _ r s (unit.comment {text} u) (unit.white {b} v) e =
    let first : b ≡ 47 = (let f : b ∷ s ≡ 47 ∷ ((42 ∷ (u.body ++ mark)) ++ r) = sym e ∙ ap (λ t. t ++ r) u.spelled in cc) in
    absurd (white_slash b v first)
unit_unique _ _ r s (unit.comment u) (unit.comment v) e =
    let whole : 47 ∷ 42 ∷ ((u.body ++ mark) ++ r) ≡ 47 ∷ 42 ∷ ((v.body ++ mark) ++ s)
    = sym (ap (λ t. t ++ r) u.spelled) ∙ e ∙ ap (λ t. t ++ s) v.spelled in
    let bodies : (u.body ++ mark) ++ r ≡ (v.body ++ mark) ++ s = cc in
    let long : length v.body ≤ length u.body = body_shorter u.body r v.body s v.once bodies in
    let short : length u.body ≤ length v.body = body_shorter v.body s u.body r u.once (sym bodies) in
    let same : (u.body ++ mark ≡ v.body ++ mark) × (r ≡ s)
    = same_front (u.body ++ mark) r (v.body ++ mark) s bodies (simp length-append (omega arith)) in
    u.spelled ∙ ap (λ t. 47 ∷ 42 ∷ t) same.0 ∙ sym v.spelled

-- separators are none, or one and others
data Parts (text : List ℕ) : Type 0 where
  none : text ≡ [] → Parts text
  more : (front rest : List ℕ) → text ≡ front ++ rest → IsUnit front → IsSeparators rest → Parts text

parts : (text : List ℕ) → IsSeparators text → Parts text
parts text separators.none = none refl
parts text (separators.white {b} {rest} w s) = more (b ∷ []) rest refl (unit.white w) s
parts _ (separators.comment {text} {front} {rest} e c s) = more front rest e (unit.comment c) s

-- one separator before others
separated : (front rest : List ℕ) → IsUnit front → IsSeparators rest → IsSeparators (front ++ rest)
separated front rest (unit.white w) s = separators.white w s
separated front rest (unit.comment c) s = separators.comment refl c s

none_longer : (text : List ℕ) (m : ℕ) → m ≤ length text → Parts (take m text) → HasNoUnit text → m ≤ 0
none_longer text m fits (none e) h = omega (arith, ap length e, length-take-le m text fits)
none_longer text m fits (more front rest e u s) h =
    absurd (h front (rest ++ drop m text) (cut text m ∙ ap (λ t. t ++ drop m text) e ∙ append_assoc front rest (drop m text)) u)

-- a text that begins with no separator
pub passes_none : (text : List ℕ) → HasNoUnit text → Passes text 0
passes_none text h = record {
  fits = zero-le;
  separators = separators.none;
  longest = λ m fits s. none_longer text m fits (parts (take m text) s) h;
}

more_longer : (text : List ℕ) (n k m : ℕ) → UnitIs text n → Passes (drop n text) k → m ≤ length text → Parts (take m text) → m ≤ n + k
more_longer text n k m u p fits (none e) = omega (arith, ap length e, length-take-le m text fits)
more_longer text n k m u p fits (more front rest e v s) =
    let whole : text ≡ front ++ (rest ++ drop m text) = cut text m ∙ ap (λ t. t ++ drop m text) e ∙ append_assoc front rest (drop m text) in
    let same : front ≡ take n text = unit_unique front (take n text) (rest ++ drop m text) (drop n text) v u.unit (sym whole ∙ cut text n) in
    let behind : rest ++ drop m text ≡ drop n text
    = append_cancel_left front (rest ++ drop m text) (drop n text) (sym whole ∙ cut text n ∙ ap (λ t. t ++ drop n text) (sym same)) in
    let long : length rest ≤ k
    = p.longest (length rest) (front_fits (drop n text) rest (drop m text) (sym behind)) (subst IsSeparators (sym (take_front (drop n text) rest (drop m text) (sym behind))) s) in
    let one : length front ≡ n = ap length same ∙ length-take-le n text u.fits in
    let all : m ≡ length front + length rest = sym (length-take-le m text fits) ∙ ap length e ∙ length-append front rest in
    omega arith

-- one separator, and those of what is after it
pub passes_more : (text : List ℕ) (n k : ℕ) → UnitIs text n → Passes (drop n text) k → Passes text (n + k)
passes_more text n k u p = record {
  fits = (let f = p.fits in let some = u.fits in omega (arith, length-drop n text));
  separators = rw (take-add n k text) (separated (take n text) (take k (drop n text)) u.unit p.separators);
  longest = λ m fits s. more_longer text n k m u p fits (parts (take m text) s);
}

-- a white byte stands at the front
pub white_unit : (text tail : List ℕ) (b : ℕ) → text ≡ b ∷ tail → IsWhite b → UnitIs text 1
white_unit text tail b e w = rw e (record { some = omega arith; fits = omega arith; unit = unit.white w })

-- what a text holds, a longer one does
occurs_more : (a s : List ℕ) (j : ℕ) → OccursAt a mark j → OccursAt (a ++ s) mark j
occurs_more a s j o =
    let fits = o.fits in
    record {
      fits = rw length-append (omega arith);
      reads = λ i below. get_or_append_left a s 0 (j + i) (omega arith) ∙ o.reads i below;
    }

occurs_end : (body : List ℕ) → OccursAt (body ++ mark) mark (length body)
occurs_end body = record {
  fits = rw length-append (omega arith);
  reads = λ i below. get_or-append-add body mark i 0;
}

-- `*/` stands at place k of what is after the opening, and nowhere before
module _ (body : List ℕ) (k : ℕ) (found : OccursAt body mark k) (first : NoneBefore (OccursAt body mark) 0 (length body + 1) k) where
  ends : body ≡ take k body ++ (42 ∷ 47 ∷ drop (k + 2) body)
  ends =
      let fits = found.fits in
      let star : get_or body k 0 ≡ 42 = (rw add-zero at (found.reads 0 (omega arith))) in
      let slash : get_or body (k + 1) 0 ≡ 47 = found.reads 1 (omega arith) in
      let one : drop k body ≡ get_or body k 0 ∷ drop (k + 1) body = drop_more body k 0 (omega arith) in
      let two : drop (k + 1) body ≡ get_or body (k + 1) 0 ∷ drop (k + 1 + 1) body = drop_more body (k + 1) 0 (omega arith) in
      cut body k ∙ ap (λ t. take k body ++ t) (rw (one, two, star, slash) (ap (λ i. 42 ∷ 47 ∷ drop i body) (omega arith)))

  once : (j : ℕ) → OccursAt (take k body ++ mark) mark j → j ≡ length (take k body)
  once j o =
      let one : length (take k body) ≡ k = (let fits = found.fits in length-take-le k body (omega arith)) in
      elim (cases_lt j k) [
        | inl h ↦
            absurd (first.before j zero-le h (subst (λ t. OccursAt t mark j) (append_assoc (take k body) mark (drop (k + 2) body) ∙ sym ends) (occurs_more (take k body ++ mark) (drop (k + 2) body) j o)))
        | inr h ↦ (let fits = o.fits in let all = length-append (take k body) mark in omega arith)
      ]

pub comment_unit : (tail body : List ℕ) (b k : ℕ) → tail ≡ b ∷ body → b ≡ 42 → NoneBefore (OccursAt body mark) 0 (length body + 1) k → OccursAt body mark k → UnitIs (47 ∷ tail) (2 + k + 2)
comment_unit tail body b k e f first found =
    let fits = found.fits in
    let whole : 47 ∷ tail ≡ (47 ∷ 42 ∷ (take k body ++ mark)) ++ drop (k + 2) body
    = ap (λ t. 47 ∷ t) (e ∙ ap (λ a. a ∷ body) f) ∙ ap (λ t. 47 ∷ 42 ∷ t) (ends body k found first ∙ sym (append_assoc (take k body) mark (drop (k + 2) body))) in
    let long : length (47 ∷ 42 ∷ (take k body ++ mark)) ≡ 2 + k + 2
    = (let one = length-take-le k body (omega arith) in let all = length-append (take k body) mark in omega arith) in
    let same : take (2 + k + 2) (47 ∷ tail) ≡ 47 ∷ 42 ∷ (take k body ++ mark)
    = ap (λ n. take n (47 ∷ tail)) (sym long) ∙ take_front (47 ∷ tail) (47 ∷ 42 ∷ (take k body ++ mark)) (drop (k + 2) body) whole in
    record {
      some = omega arith;
      fits = omega (arith, ap length e);
      unit = unit.comment (subst IsComment (sym same) (record { body = take k body; spelled = refl; once = once body k found first }));
    }

-- a comment has its `*/`
pub none_open : (tail body : List ℕ) (b : ℕ) → tail ≡ b ∷ body → ((k : ℕ) → 0 ≤ k → k < length body + 1 → OccursAt body mark k → ⊥) → HasNoUnit (47 ∷ tail)
none_open tail body b e h _ behind s (unit.white {b = a} w) = absurd (white_slash a w cc)
none_open tail body b e h front behind s (unit.comment c) =
    let whole : 47 ∷ b ∷ body ≡ 47 ∷ 42 ∷ ((c.body ++ mark) ++ behind)
    = ap (λ t. 47 ∷ t) (sym e) ∙ s ∙ ap (λ t. t ++ behind) c.spelled in
    let rest : body ≡ (c.body ++ mark) ++ behind = cc in
    let at : OccursAt body mark (length c.body)
    = subst (λ t. OccursAt t mark (length c.body)) (sym rest) (occurs_more (c.body ++ mark) behind (length c.body) (occurs_end c.body)) in
    let fits = at.fits in
    h (length c.body) zero-le (omega arith) at
