-- A stretch of parts up to where they stop, and the tokens in it.
use Rattle.std.proofs.Common.{◌≡◌, ◌≢◌, ℕ, zero, suc, ◌+◌, ◌-◌, ◌<◌, ◌≤◌, ◌⊎◌, inl, inr, List, [], ◌∷◌, ◌++◌, length, take, drop, refl, sym, ap, subst, ◌∙◌, arith, length-append, length-take-le}
use Rattle.std.proofs.lemmas.List.{drop-drop, length-drop, drop_at, get_or-take, drop-append-le, take-append-le}
use Rattle.p21_text.specs.Separators.{IsSeparators, IsComment}
use Rattle.p21_text.specs.Spelling.{Symbol, Spells, str}
use Rattle.p21_text.specs.Spelling as token
use Rattle.p21_text.specs.Tokens.{Passes, Longest, NoneBegins, Front, First, Placed, Tokens, IsLast}
use Rattle.p21_text.specs.Tokens as tokens
use Rattle.p21_text.specs.Laws.{HasOneString}
use Rattle.p21_cut.specs.Pieces.{BeginsWithByte, PartIs, PartsAre, HasNoPart}
use Rattle.p21_cut.specs.Pieces as pieces
use Rattle.p21_cut.proofs.PartLemmas.{passed_parts, taken_parts, plain_run, one_part, IsPlainAt}
use Rattle.p21_cut.proofs.OneCuttingLemmas.{part_once, no_part_at_semicolon, begins_by}
use Rattle.p21_cut.proofs.SpellingLemmas.{HasNoMark, no_mark, spells_alike, BeginAlike}

-- where a string token is spelled no other is: of every text
abbrev pub OneString : Type 0
OneString = (text : List ℕ) → HasOneString text

-- parts lead on to where they stop
pub parts_left : (text : List ℕ) (a k : ℕ) → OneString → PartsAre text a → PartsAre text k → HasNoPart (drop k text) → (a ≤ k) × PartsAre (drop a text) (k - a)
parts_left text a k one pieces.none all stop = let same : k ≡ k - 0 = omega arith in (omega arith, subst (PartsAre text) same all)
parts_left text a k one (pieces.more {n = b} p ps e) pieces.none stop = absurd (stop b p)
parts_left text a k one (pieces.more {n = b} {m = m} p ps e) (pieces.more {n = c} {m = others} q qs f) stop =
    let same : c ≡ b = part_once text c b (one text) q p in
    let place : k ≡ b + others = omega (arith, same, f) in
    let behind : PartsAre (drop b text) others = subst (λ j. PartsAre (drop j text) others) same qs in
    let ends : HasNoPart (drop others (drop b text)) = rw (drop-drop others b text) (subst (λ j. HasNoPart (drop j text)) place stop) in
    let left : (m ≤ others) × PartsAre (drop m (drop b text)) (others - m) = parts_left (drop b text) m others one ps behind ends in
    let count : others - m ≡ k - a = omega (arith, e, place, left.0) in
    let there : PartsAre (drop (b + m) text) (others - m) = subst (λ l. PartsAre l (others - m)) (drop-drop m b text) left.1 in
    (omega (arith, e, place, left.0), subst (PartsAre (drop a text)) count (subst (λ j. PartsAre (drop j text) (others - m)) (sym e) there))

plain_there : (s : List ℕ) (k : ℕ) → HasNoMark s → k < length s → IsPlainAt s k
plain_there [] k h u = absurd (omega arith)
plain_there (b ∷ s) zero h u = h.0
plain_there (b ∷ s) (suc k) h u = plain_there s k h.1 (omega arith)

marks_none : (text : List ℕ) (n : ℕ) → n ≤ length text → HasNoMark (take n text) → PartsAre text n
marks_none text n h none = plain_run text n h each where
  each : (k : ℕ) → k < n → IsPlainAt text k
  each k u = subst (λ b. (b ≢ 59) × (b ≢ 39) × (b ≢ 47)) (get_or-take n text k 0 u) (plain_there (take n text) k none (omega (arith, u, length-take-le n text h)))

-- whether a token is a string
string_or : (t : Symbol) → ((body : List ℕ) × (t ≡ str body)) ⊎ ((body : List ℕ) → t ≢ str body)
string_or (str body) = inl (body, refl)
string_or _ = inr (λ body e. cc)

-- a token other than `;` is made of parts
pub token_parts : (text : List ℕ) (n : ℕ) (t : Symbol) → n ≤ length text → Spells (take n text) (drop n text) t → t ≢ token.semi → PartsAre text n
token_parts text n t h s no_semi =
    elim (string_or t) [
      | inl e ↦ one_part text n (pieces.string h (subst (Spells (take n text) (drop n text)) e.1 s))
      | inr e ↦ marks_none text n h (no_mark (take n text) (drop n text) t s e no_semi)
    ]

-- ---- two texts that begin alike, up to and including a `;`

-- they agree on the bytes before the `;`
same_take : (front r q : List ℕ) (n : ℕ) → n ≤ length front → take n (front ++ 59 ∷ r) ≡ take n (front ++ 59 ∷ q)
same_take front r q n h = take-append-le n front (59 ∷ r) h ∙ sym (take-append-le n front (59 ∷ q) h)

behind_alike : (front r q : List ℕ) (n : ℕ) → n ≤ length front → BeginAlike (drop n (front ++ 59 ∷ r)) (drop n (front ++ 59 ∷ q))
behind_alike [] r q zero h = refl
behind_alike [] r q (suc n) h = absurd (omega arith)
behind_alike (x ∷ front) r q zero h = refl
behind_alike (x ∷ front) r q (suc n) h = behind_alike front r q n (omega arith)

star_alike : (front r q : List ℕ) → BeginsWithByte 42 (front ++ 59 ∷ q) → BeginsWithByte 42 (front ++ 59 ∷ r)
star_alike [] r q h = h
star_alike (x ∷ front) r q h = h

long : (front r : List ℕ) (n : ℕ) → n ≤ length front → n ≤ length (front ++ 59 ∷ r)
long front r n h = rw length-append (omega arith)

part_alike : (text front r q : List ℕ) (n : ℕ) → text ≡ front ++ 59 ∷ r → n ≤ length front → PartIs text n → PartIs (front ++ 59 ∷ q) n
part_alike text front r q n e h (pieces.string {body = body} k s) =
    let there : Spells (take n (front ++ 59 ∷ r)) (drop n (front ++ 59 ∷ r)) (str body) = subst (λ l. Spells (take n l) (drop n l) (str body)) e s in
    pieces.string (long front q n h) (spells_alike (take n (front ++ 59 ∷ q)) (drop n (front ++ 59 ∷ r)) (drop n (front ++ 59 ∷ q)) (str body) (behind_alike front r q n h)
    (subst (λ l. Spells l (drop n (front ++ 59 ∷ r)) (str body)) (same_take front r q n h) there))
part_alike text front r q n e h (pieces.comment k c) = pieces.comment (long front q n h) (subst IsComment (ap (take n) e ∙ same_take front r q n h) c)
part_alike text [] r q n e h (pieces.byte p) = absurd (omega arith)
part_alike text (x ∷ front) r q n e h (pieces.byte {b = b} {behind = behind} p) =
    let first : b ≡ x = cc in
    let rest : behind ≡ front ++ 59 ∷ r = cc in
    pieces.byte (record {
      no_semicolon = λ f. p.no_semicolon (first ∙ f);
      no_apostrophe = λ f. p.no_apostrophe (first ∙ f);
      opens_nothing = λ f star. p.opens_nothing (first ∙ f) (rw rest (star_alike front r q star));
    })

pub parts_alike : (text front r q : List ℕ) (n : ℕ) → text ≡ front ++ 59 ∷ r → n ≤ length front → PartsAre text n → PartsAre (front ++ 59 ∷ q) n
parts_alike text front r q n e h pieces.none = pieces.none
parts_alike text front r q n e h (pieces.more {n = a} {m = m} p ps f) =
    let small : a ≤ length front = omega (arith, h, f) in
    let rest : drop a text ≡ drop a front ++ 59 ∷ r = ap (drop a) e ∙ drop-append-le a front (59 ∷ r) small in
    let left : m ≤ length (drop a front) = omega (arith, h, f, length-drop a front) in
    let others : PartsAre (drop a front ++ 59 ∷ q) m = parts_alike (drop a text) (drop a front) r q m rest left ps in
    pieces.more (part_alike text front r q a e small p) (rw (drop-append-le a front (59 ∷ q) small) others) f

at_mark : (front r : List ℕ) → BeginsWithByte 59 (drop (length front) (front ++ 59 ∷ r))
at_mark front r = rw (drop_at front (59 ∷ r) (length front) refl) refl

pub stops_at_mark : (front r : List ℕ) → HasNoPart (drop (length front) (front ++ 59 ∷ r))
stops_at_mark front r = no_part_at_semicolon (drop (length front) (front ++ 59 ∷ r)) (at_mark front r)

-- no parts stand before a `;` at the front
pub mark_first : (text : List ℕ) (n : ℕ) → BeginsWithByte 59 text → PartsAre text n → n ≡ 0
mark_first text n h pieces.none = refl
mark_first text n h (pieces.more {n = a} p ps e) = absurd (no_part_at_semicolon text h a p)

pub semi_or : (t : Symbol) → (t ≡ token.semi) ⊎ (t ≢ token.semi)
semi_or token.semi = inl refl
semi_or _ = inr (λ e. cc)

semi_alike : (front r q : List ℕ) (n : ℕ) → PartsAre (front ++ 59 ∷ r) (length front) → n ≤ length (front ++ 59 ∷ r) → take n (front ++ 59 ∷ r) ≡ 59 ∷ [] → (n ≤ length (front ++ 59 ∷ q)) × (take n (front ++ 59 ∷ q) ≡ 59 ∷ [])
semi_alike [] r q n all h e =
    let single : 1 ≡ n = omega (arith, length-take-le n (59 ∷ r) h, ap length e) in
    subst (λ j. (j ≤ length (59 ∷ q)) × (take j (59 ∷ q) ≡ 59 ∷ [])) single (omega arith, refl)
semi_alike (x ∷ front) r q n all h e =
    let none : length (x ∷ front) ≡ 0 = mark_first (x ∷ (front ++ 59 ∷ r)) (length (x ∷ front)) (begins_by (x ∷ (front ++ 59 ∷ r)) [] n 59 e) all in
    absurd (omega arith)

-- a token of the one text is one of the other
pub spelled_alike : (front r q : List ℕ) (n : ℕ) (t : Symbol) → OneString → PartsAre (front ++ 59 ∷ r) (length front) → n ≤ length (front ++ 59 ∷ r) → Spells (take n (front ++ 59 ∷ r)) (drop n (front ++ 59 ∷ r)) t
    → (n ≤ length (front ++ 59 ∷ q)) × Spells (take n (front ++ 59 ∷ q)) (drop n (front ++ 59 ∷ q)) t
spelled_alike front r q n t one all h s =
    elim (semi_or t) [
      | inl e ↦
          let found = semi_alike front r q n all h (subst (Spells (take n (front ++ 59 ∷ r)) (drop n (front ++ 59 ∷ r))) e s) in
          (found.0, subst (Spells (take n (front ++ 59 ∷ q)) (drop n (front ++ 59 ∷ q))) (sym e) found.1)
      | inr other ↦
          let small : n ≤ length front = (parts_left (front ++ 59 ∷ r) n (length front) one (token_parts (front ++ 59 ∷ r) n t h s other) all (stops_at_mark front r)).0 in (
            long front q n small,
            spells_alike (take n (front ++ 59 ∷ q)) (drop n (front ++ 59 ∷ r)) (drop n (front ++ 59 ∷ q)) t (behind_alike front r q n small)
                (subst (λ l. Spells l (drop n (front ++ 59 ∷ r)) t) (same_take front r q n small) s),
          )
    ]

never_empty : (front r : List ℕ) → front ++ 59 ∷ r ≢ []
never_empty [] r e = cc
never_empty (x ∷ front) r e = cc

pub front_alike : (text front r q : List ℕ) (n : ℕ) (t : Symbol) → OneString → text ≡ front ++ 59 ∷ r → PartsAre (front ++ 59 ∷ r) (length front) → Front text n t → Front (front ++ 59 ∷ q) n t
front_alike text front r q n t one e all (tokens.token l) =
    let other : PartsAre (front ++ 59 ∷ q) (length front) = parts_alike (front ++ 59 ∷ r) front r q (length front) refl (omega arith) all in
    let here : Longest (front ++ 59 ∷ r) n t = subst (λ x. Longest x n t) e l in
    let there = spelled_alike front r q n t one all here.fits here.spelled in
    tokens.token (record {
      fits = there.0;
      spelled = there.1;
      longest = λ m u h s. let back = spelled_alike front q r m u one other h s in here.longest m u back.0 back.1;
    })
front_alike text front r q n t one e all tokens.ended = absurd (never_empty front r (sym e))
front_alike text front r q n t one e all (tokens.none some nothing) =
    let other : PartsAre (front ++ 59 ∷ q) (length front) = parts_alike (front ++ 59 ∷ r) front r q (length front) refl (omega arith) all in
    let here : NoneBegins (front ++ 59 ∷ r) = subst NoneBegins e nothing in
    tokens.none (never_empty front q) (λ m u h s. let back = spelled_alike front q r m u one other h s in here m u back.0 back.1)

pub passes_alike : (front r q : List ℕ) (gap : ℕ) → OneString → PartsAre (front ++ 59 ∷ r) (length front) → Passes (front ++ 59 ∷ r) gap → (gap ≤ length front) × Passes (front ++ 59 ∷ q) gap
passes_alike front r q gap one all p =
    let other : PartsAre (front ++ 59 ∷ q) (length front) = parts_alike (front ++ 59 ∷ r) front r q (length front) refl (omega arith) all in
    let small : gap ≤ length front = (parts_left (front ++ 59 ∷ r) gap (length front) one (passed_parts (front ++ 59 ∷ r) gap p) all (stops_at_mark front r)).0 in (
      small,
      record {
        fits = long front q gap small;
        separators = subst IsSeparators (same_take front r q gap small) p.separators;
        longest = λ m h s.
            let within : m ≤ length front = (parts_left (front ++ 59 ∷ q) m (length front) one (taken_parts (front ++ 59 ∷ q) m h s) other (stops_at_mark front q)).0 in
            p.longest m (long front r m within) (subst IsSeparators (sym (same_take front r q m within)) s);
      },
    )

-- The first token of the one text is that of the other, wherever the two stand.
pub first_alike : (a b front r q : List ℕ) (at there : ℕ) (t : Placed) → OneString → drop at a ≡ front ++ 59 ∷ r → drop there b ≡ front ++ 59 ∷ q → PartsAre (front ++ 59 ∷ r) (length front)
    → (f : First a at t) → (f.gap ≤ length front) × First b there (record { start = there + f.gap; after = there + f.gap + f.len; token = t.token })
first_alike a b front r q at there t one e g all f =
    let passed = passes_alike front r q f.gap one all (subst (λ l. Passes l f.gap) e f.passes) in
    let small : f.gap ≤ length front = passed.0 in
    let left : List ℕ = drop f.gap front in
    let here : drop f.gap (drop at a) ≡ left ++ 59 ∷ r = ap (drop f.gap) e ∙ drop-append-le f.gap front (59 ∷ r) small in
    let behind : drop f.gap (drop there b) ≡ left ++ 59 ∷ q = ap (drop f.gap) g ∙ drop-append-le f.gap front (59 ∷ q) small in
    let rest : PartsAre (drop f.gap (front ++ 59 ∷ r)) (length front - f.gap) = (parts_left (front ++ 59 ∷ r) f.gap (length front) one (passed_parts (front ++ 59 ∷ r) f.gap (subst (λ l. Passes l f.gap) e f.passes)) all (stops_at_mark front r)).1 in
    let parts : PartsAre (left ++ 59 ∷ r) (length left) = subst (λ l. PartsAre l (length left)) (drop-append-le f.gap front (59 ∷ r) small) (subst (PartsAre (drop f.gap (front ++ 59 ∷ r))) (sym (length-drop f.gap front)) rest) in (
      small,
      record {
        gap = f.gap;
        len = f.len;
        passes = subst (λ l. Passes l f.gap) (sym g) passed.1;
        front = subst (λ l. Front l f.len t.token) (sym behind) (front_alike (drop f.gap (drop at a)) left r q f.len t.token one here parts f.front);
        start_is = refl;
        after_is = refl;
      },
    )
