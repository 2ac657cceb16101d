-- The tokens of a piece are those of the file.
use Rattle.std.proofs.Common.{◌≡◌, ◌≢◌, ℕ, zero, suc, ◌+◌, ◌-◌, ◌≤◌, ◌⊎◌, inl, inr, List, [], ◌∷◌, ◌++◌, length, take, drop, refl, sym, ap, subst, ◌∙◌, arith, length-append, length-take-le}
use Rattle.std.proofs.lemmas.List.{drop-drop, length-drop, drop-append-le, drop_all}
use Rattle.std.proofs.lemmas.List.Elements.{All-cons}
use Rattle.p21_text.specs.Spelling.{Symbol, Spells}
use Rattle.p21_text.specs.Spelling as token
use Rattle.p21_text.specs.Tokens.{Passes, Longest, NoneBegins, Front, First, Placed, Tokens, TokensUpTo, IsLast}
use Rattle.p21_text.specs.Tokens as tokens
use Rattle.p21_tree.specs.Texts.{shift, shifted}
use Rattle.p21_tree.specs.InOrder.{BeginsWithName, HasNoSemi}
use Rattle.p21_cut.specs.Pieces.{BeginsWithByte, PartIs, PartsAre, HasNoPart}
use Rattle.p21_cut.specs.Pieces as pieces
use Rattle.p21_cut.specs.Tokens.{TokensAndNext}
use Rattle.p21_cut.proofs.PartLemmas.{passed_parts, byte_gap}
use Rattle.p21_cut.proofs.OneCuttingLemmas.{begins_by}
use Rattle.p21_cut.proofs.SpellingLemmas.{begins, MayBegin, FirstIs}
use Rattle.p21_cut.proofs.StretchLemmas.{OneString, parts_left, token_parts, mark_first, semi_or, first_alike, stops_at_mark}

-- ---- one token in a stretch of parts

-- up to the token there are parts
before_token : (a text : List ℕ) (at k : ℕ) (t : Placed) → OneString → drop at a ≡ text → PartsAre text k → HasNoPart (drop k text) → (f : First a at t) → (f.gap ≤ k) × PartsAre (drop f.gap text) (k - f.gap)
before_token a text at k t one e all stop f = parts_left text f.gap k one (passed_parts text f.gap (subst (λ l. Passes l f.gap) e f.passes)) all stop

semi_spelled : (text : List ℕ) (n : ℕ) (t : Symbol) → Front text n t → t ≡ token.semi → BeginsWithByte 59 text × (n ≡ 1)
semi_spelled text n t (tokens.token l) e =
    let spelled : take n text ≡ 59 ∷ [] = subst (Spells (take n text) (drop n text)) e l.spelled in
    (begins_by text [] n 59 spelled, omega (arith, length-take-le n text l.fits, ap length spelled))
semi_spelled text n t tokens.ended e = cc
semi_spelled text n t (tokens.none some nothing) e = cc

-- a `;` stands where the parts stop
pub first_semi : (a text : List ℕ) (at k : ℕ) (t : Placed) → OneString → drop at a ≡ text → PartsAre text k → HasNoPart (drop k text) → (f : First a at t) → t.token ≡ token.semi → (f.gap ≡ k) × ((f.len ≡ 1) × BeginsWithByte 59 (drop k text))
first_semi a text at k t one e all stop f s =
    let before = before_token a text at k t one e all stop f in
    let found = semi_spelled (drop f.gap text) f.len t.token (subst (λ l. Front (drop f.gap l) f.len t.token) e f.front) s in
    let none : k - f.gap ≡ 0 = mark_first (drop f.gap text) (k - f.gap) found.0 before.1 in
    let same : f.gap ≡ k = omega (arith, before.0, none) in
    (same, (found.1, subst (λ j. BeginsWithByte 59 (drop j text)) same found.0))

front_parts : (text : List ℕ) (n : ℕ) (t : Symbol) → Front text n t → ¬ (IsLast t) → t ≢ token.semi → PartsAre text n
front_parts text n t (tokens.token l) nl other = token_parts text n t l.fits l.spelled other
front_parts text n t tokens.ended nl other = absurd (nl tokens.at_end)
front_parts text n t (tokens.none some nothing) nl other = absurd (nl tokens.at_bad)

-- after another token the parts go on
pub first_more : (a text : List ℕ) (at k : ℕ) (t : Placed) → OneString → drop at a ≡ text → PartsAre text k → HasNoPart (drop k text) → (f : First a at t) → ¬ (IsLast t.token) → t.token ≢ token.semi
    → (f.gap + f.len ≤ k) × PartsAre (drop (f.gap + f.len) text) (k - (f.gap + f.len))
first_more a text at k t one e all stop f nl other =
    let before = before_token a text at k t one e all stop f in
    let left : List ℕ = drop f.gap text in
    let place : f.gap + (k - f.gap) ≡ k = omega (arith, before.0) in
    let stops : HasNoPart (drop (k - f.gap) left) = rw (drop-drop (k - f.gap) f.gap text) (subst (λ j. HasNoPart (drop j text)) (sym place) stop) in
    let own = front_parts left f.len t.token (subst (λ l. Front (drop f.gap l) f.len t.token) e f.front) nl other in
    let behind : (f.len ≤ k - f.gap) × PartsAre (drop f.len left) (k - f.gap - f.len) = parts_left left f.len (k - f.gap) one own before.1 stops in
    let count : k - f.gap - f.len ≡ k - (f.gap + f.len) = omega arith in
    let fits : f.gap + f.len ≤ k = omega (arith, before.0, behind.0) in
    (fits, subst (PartsAre (drop (f.gap + f.len) text)) count (subst (λ l. PartsAre l (k - f.gap - f.len)) (drop-drop f.len f.gap text) behind.1))

pub moved_is : (s a b at gap len : ℕ) (t : Symbol) → a ≡ at + gap → b ≡ a + len → record { start = s + at + gap; after = s + at + gap + len; token = t } ≡ shift s (record { start = a; after = b; token = t })
moved_is s a b at gap len t e f =
    let start : s + at + gap ≡ s + a = omega arith in
    let after : s + at + gap + len ≡ s + b = omega arith in cc

-- where two texts begin alike up to a `;`, a token of the one is a token of the other
first_moved : (a b front r q : List ℕ) (at s : ℕ) (t : Placed) → OneString → drop at a ≡ front ++ 59 ∷ r → drop (s + at) b ≡ front ++ 59 ∷ q → PartsAre (front ++ 59 ∷ r) (length front) → First a at t → First b (s + at) (shift s t)
first_moved a b front r q at s t one e g all f =
    subst (First b (s + at)) (moved_is s t.start t.after at f.gap f.len t.token f.start_is f.after_is) (first_alike a b front r q at (s + at) t one e g all f).1

-- the same where the two texts go on alike to their ends
first_same : (a b : List ℕ) (at s : ℕ) (t : Placed) → drop at a ≡ drop (s + at) b → First a at t → First b (s + at) (shift s t)
first_same a b at s t e f = record {
  gap = f.gap;
  len = f.len;
  passes = subst (λ l. Passes l f.gap) e f.passes;
  front = subst (λ l. Front (drop f.gap l) f.len t.token) e f.front;
  start_is = (let h = f.start_is in omega arith);
  after_is = (let h = f.after_is in omega arith);
}

-- ---- the end of a text

no_spelling : (n m : ℕ) (t : Symbol) (text : List ℕ) → text ≡ [] → ¬ (Spells (take n text) (drop n text) t)
no_spelling n m t text e s = nothing (take n text) (empty n) (begins (take n text) (drop n text) t s) where
  empty : (k : ℕ) → take k text ≡ []
  empty zero = refl
  empty (suc k) = ap (take (suc k)) e

  nothing : (l : List ℕ) → l ≡ [] → ¬ (FirstIs (MayBegin t) l)
  nothing [] f h = h
  nothing (x ∷ l) f h = cc

end_front : (text : List ℕ) (n : ℕ) (t : Symbol) → text ≡ [] → Front text n t → (t ≡ token.end) × (n ≡ 0)
end_front text n t e (tokens.token l) = absurd (no_spelling n 0 t text e l.spelled)
end_front text n t e tokens.ended = (refl, refl)
end_front text n t e (tokens.none some nothing) = absurd (some e)

pub no_gap : (text : List ℕ) (gap : ℕ) → text ≡ [] → Passes text gap → gap ≡ 0
no_gap text gap e p = let none : length text ≡ 0 = ap length e in let fits = p.fits in omega arith

-- the token at the end of a text
first_at_end : (text : List ℕ) (at : ℕ) (t : Placed) → drop at text ≡ [] → First text at t → (t.token ≡ token.end) × ((t.start ≡ at) × (t.after ≡ at))
first_at_end text at t e f =
    let gap : f.gap ≡ 0 = no_gap (drop at text) f.gap e f.passes in
    let rest : drop f.gap (drop at text) ≡ [] = ap (λ g. drop g (drop at text)) gap ∙ e in
    let found = end_front (drop f.gap (drop at text)) f.len t.token rest f.front in
    let start : t.start ≡ at = omega (arith, f.start_is) in
    let after : t.after ≡ at = omega (arith, f.start_is, f.after_is, found.1) in
    (found.0, (start, after))

-- the tokens there
pub tokens_at_end : (text : List ℕ) (at : ℕ) (us : List Placed) → drop at text ≡ [] → Tokens text at us → (end : Placed) × (us ≡ end ∷ []) × (end.token ≡ token.end) × (end.start ≡ at) × (end.after ≡ at)
tokens_at_end text at us e (tokens.last {t = t} f l) = let found = first_at_end text at t e f in (t, refl, found.0, found.1.0, found.1.1)
tokens_at_end text at us e (tokens.more {t = t} f nl rest) = let found = first_at_end text at t e f in absurd (nl (subst IsLast (sym found.0) tokens.at_end))

pub end_or_bad : (t : Symbol) → IsLast t → (t ≡ token.end) ⊎ (t ≡ token.bad)
end_or_bad token.end h = inl refl
end_or_bad token.bad h = inr refl
end_or_bad _ h = elim h [ ]

-- an End stands at the end of its text
end_there : (text : List ℕ) (n : ℕ) (t : Symbol) → Front text n t → t ≡ token.end → (text ≡ []) × (n ≡ 0)
end_there text n t (tokens.token l) e = absurd (subst (Spells (take n text) (drop n text)) e l.spelled)
end_there text n t tokens.ended e = (refl, refl)
end_there text n t (tokens.none some nothing) e = cc

pub end_place : (text : List ℕ) (at : ℕ) (t : Placed) → at ≤ length text → First text at t → t.token ≡ token.end → (t.start ≡ length text) × (t.after ≡ length text)
end_place text at t h f e =
    let found = end_there (drop f.gap (drop at text)) f.len t.token f.front e in
    let none : length (drop f.gap (drop at text)) ≡ 0 = ap length found.0 in
    let fits = f.passes.fits in
    let start : t.start ≡ length text = omega (arith, f.start_is, none, length-drop f.gap (drop at text), length-drop at text, fits) in
    (start, omega (arith, start, f.after_is, found.1))

-- ---- the tokens of a piece that a `;` closes

no_semi_yet : HasNoSemi []
no_semi_yet k d h = absurd (omega arith)

-- what first tokens of a piece, from a place of it on, are in the file
pub data ClosedWalk (file : List ℕ) (s end at : ℕ) (before : List Placed) (t : Placed) : Type 0 where
  inside : HasNoSemi before → t.token ≢ token.end → TokensAndNext file (s + at) (shifted s before) (shift s t) → ClosedWalk file s end at before t
  closed : (body : List Placed) (semi : Placed) → before ≡ body ++ semi ∷ [] → HasNoSemi body → semi.token ≡ token.semi → t.token ≡ token.end → TokensUpTo file (s + at) (shifted s before) end → ClosedWalk file s end at before t

walk_on : (file : List ℕ) (s end at : ℕ) (u : Placed) (before : List Placed) (t : Placed) → First file (s + at) (shift s u) → ¬ (IsLast u.token) → u.token ≢ token.semi → ClosedWalk file s end u.after before t → ClosedWalk file s end at (u ∷ before) t
walk_on file s end at u before t f nl other (inside none no_end rest) =
    inside (All-cons (λ x. x.token ≢ token.semi) u before other none) no_end (record { place = rest.place; tokens = tokens.more f nl rest.tokens; next = rest.next })
walk_on file s end at u before t f nl other (closed body semi e none k l rest) =
    closed (u ∷ body) semi (ap (λ x. u ∷ x) e) (All-cons (λ x. x.token ≢ token.semi) u body other none) k l (tokens.more f nl rest)

-- after the end of a text stands nothing but its End
nothing_more : (text : List ℕ) (at place : ℕ) (before : List Placed) (t : Placed) → drop at text ≡ [] → TokensUpTo text at before place → First text place t → (before ≡ []) × (t.token ≡ token.end)
nothing_more text at place before t e tokens.none f = (refl, (first_at_end text at t e f).0)
nothing_more text at place before t e (tokens.more {t = u} g nl rest) f = absurd (nl (subst IsLast (sym (first_at_end text at u e g).0) tokens.at_end))

-- a text that begins alike still does after some of its bytes
left_of : (text front r : List ℕ) (at : ℕ) → text ≡ front ++ 59 ∷ r → at ≤ length front → drop at text ≡ drop at front ++ 59 ∷ r
left_of text front r at e h = ap (drop at) e ∙ drop-append-le at front (59 ∷ r) h

never_empty : (front r : List ℕ) → front ++ 59 ∷ r ≢ []
never_empty [] r e = cc
never_empty (x ∷ front) r e = cc

no_end_before : (a left r : List ℕ) (at : ℕ) (t : Placed) → OneString → drop at a ≡ left ++ 59 ∷ r → PartsAre (left ++ 59 ∷ r) (length left) → First a at t → t.token ≢ token.end
no_end_before a left r at t one e all f k =
    let small = (before_token a (left ++ 59 ∷ r) at (length left) t one e all (stops_at_mark left r) f).0 in
    let found = end_there (drop f.gap (drop at a)) f.len t.token f.front k in
    let here : drop f.gap (drop at a) ≡ drop f.gap left ++ 59 ∷ r = left_of (drop at a) left r f.gap e small in
    never_empty (drop f.gap left) r (sym here ∙ found.0)

pub closed_walk : (file bytes front r : List ℕ) (s at place : ℕ) (before : List Placed) (t : Placed) → OneString → bytes ≡ front ++ 59 ∷ [] → drop s file ≡ front ++ 59 ∷ r → at ≤ length front → PartsAre (drop at bytes) (length front - at)
    → TokensUpTo bytes at before place → First bytes place t → ClosedWalk file s (s + length front + 1) at before t
closed_walk file bytes front r s at place before t one e g h all tokens.none f =
    let left : List ℕ = drop at front in
    let here : drop at bytes ≡ left ++ 59 ∷ [] = left_of bytes front [] at e h in
    let there : drop (s + at) file ≡ left ++ 59 ∷ r = sym (drop-drop at s file) ∙ left_of (drop s file) front r at g h in
    let parts : PartsAre (left ++ 59 ∷ []) (length left) = subst (λ x. PartsAre x (length left)) here (subst (PartsAre (drop at bytes)) (sym (length-drop at front)) all) in
    inside no_semi_yet (no_end_before bytes left [] at t one here parts f) (record { place = s + at; tokens = tokens.none; next = first_moved bytes file left [] r at s t one here there parts f })
closed_walk file bytes front r s at place before t one e g h all (tokens.more {t = u} {ts = ts} f nl rest) last =
    let left : List ℕ = drop at front in
    let here : drop at bytes ≡ left ++ 59 ∷ [] = left_of bytes front [] at e h in
    let there : drop (s + at) file ≡ left ++ 59 ∷ r = sym (drop-drop at s file) ∙ left_of (drop s file) front r at g h in
    let parts : PartsAre (left ++ 59 ∷ []) (length left) = subst (λ x. PartsAre x (length left)) here (subst (PartsAre (drop at bytes)) (sym (length-drop at front)) all) in
    let stops : HasNoPart (drop (length left) (left ++ 59 ∷ [])) = stops_at_mark left [] in
    let moved : First file (s + at) (shift s u) = first_moved bytes file left [] r at s u one here there parts f in
    elim (semi_or u.token) [
      | inl k ↦
          let found = first_semi bytes (left ++ 59 ∷ []) at (length left) u one here parts stops f k in
          let after : u.after ≡ length front + 1 = omega (arith, f.start_is, f.after_is, found.0, found.1.0, length-drop at front, h) in
          let whole : length bytes ≤ u.after = omega (arith, after, ap length e, length-append front (59 ∷ [])) in
          let none = nothing_more bytes u.after place ts t (drop_all u.after bytes whole) rest last in
          let end : s + u.after ≡ s + length front + 1 = omega (arith, after) in
          closed [] u (ap (λ x. u ∷ x) none.0) no_semi_yet k none.1
          (subst (λ x. TokensUpTo file (s + at) (shifted s (u ∷ x)) (s + length front + 1)) (sym none.0) (subst (λ j. TokensUpTo file (s + at) (shift s u ∷ []) j) end (tokens.more moved nl tokens.none)))
      | inr other ↦
          let found = first_more bytes (left ++ 59 ∷ []) at (length left) u one here parts stops f nl other in
          let after : u.after ≡ at + (f.gap + f.len) = omega (arith, f.start_is, f.after_is) in
          let within : u.after ≤ length front = omega (arith, after, found.0, length-drop at front, h) in
          let count : length left - (f.gap + f.len) ≡ length front - u.after = omega (arith, after, length-drop at front) in
          let behind : drop (f.gap + f.len) (drop at bytes) ≡ drop u.after bytes = drop-drop (f.gap + f.len) at bytes ∙ ap (λ j. drop j bytes) (sym after) in
          let next : PartsAre (drop u.after bytes) (length front - u.after) = subst (PartsAre (drop u.after bytes)) count (subst (λ x. PartsAre x (length left - (f.gap + f.len))) (ap (drop (f.gap + f.len)) (sym here) ∙ behind) found.1) in
          walk_on file s (s + length front + 1) at u ts t moved nl other (closed_walk file bytes front r s u.after place ts t one e g within next rest last)
    ]

-- ---- the tokens of a piece that runs to the end of the file

pub record OpenWalk (file bytes : List ℕ) (s at : ℕ) (before : List Placed) (t : Placed) : Type 0 where
  pub no_semi : HasNoSemi before
  pub in_file : TokensAndNext file (s + at) (shifted s before) (shift s t)
  pub end : t.token ≡ token.end → (t.start ≡ length bytes) × (t.after ≡ length bytes)

pub parts_fit : (text : List ℕ) (n : ℕ) → PartsAre text n → n ≤ length text
parts_fit text n pieces.none = omega arith
parts_fit text n (pieces.more {n = a} {m = m} p ps e) =
    let first : a ≤ length text = part_fits text a p in
    let others : m ≤ length (drop a text) = parts_fit (drop a text) m ps in omega (arith, e, first, others, length-drop a text) where
      part_fits : (text : List ℕ) (n : ℕ) → PartIs text n → n ≤ length text
      part_fits text n (pieces.string h s) = h
      part_fits text n (pieces.comment h c) = h
      part_fits text n (pieces.byte p) = omega arith

pub open_walk : (file bytes : List ℕ) (s at k place : ℕ) (before : List Placed) (t : Placed) → OneString → drop s file ≡ bytes → at ≤ k → k ≤ length bytes → PartsAre (drop at bytes) (k - at) → HasNoPart (drop k bytes) → ¬ (BeginsWithByte 59 (drop k bytes))
    → TokensUpTo bytes at before place → First bytes place t → OpenWalk file bytes s at before t
open_walk file bytes s at k place before t one e h within all stop no_mark tokens.none f =
    let there : drop at bytes ≡ drop (s + at) file = ap (drop at) (sym e) ∙ drop-drop at s file in
    record {
      no_semi = no_semi_yet;
      in_file = record { place = s + at; tokens = tokens.none; next = first_same bytes file at s t there f };
      end = end_place bytes at t (omega (arith, h, within)) f;
    }
open_walk file bytes s at k place before t one e h within all stop no_mark (tokens.more {t = u} {ts = ts} f nl rest) last =
    let there : drop at bytes ≡ drop (s + at) file = ap (drop at) (sym e) ∙ drop-drop at s file in
    let there_k : at + (k - at) ≡ k = omega (arith, h) in
    let end_at : drop (k - at) (drop at bytes) ≡ drop k bytes = drop-drop (k - at) at bytes ∙ ap (λ j. drop j bytes) there_k in
    let stops : HasNoPart (drop (k - at) (drop at bytes)) = rw end_at stop in
    let other : u.token ≢ token.semi =
    λ q. no_mark (subst (BeginsWithByte 59) end_at (first_semi bytes (drop at bytes) at (k - at) u one refl all stops f q).1.1) in
    let found = first_more bytes (drop at bytes) at (k - at) u one refl all stops f nl other in
    let after : u.after ≡ at + (f.gap + f.len) = omega (arith, f.start_is, f.after_is) in
    let fits : u.after ≤ k = omega (arith, after, found.0, h) in
    let count : k - at - (f.gap + f.len) ≡ k - u.after = omega (arith, after) in
    let behind : drop (f.gap + f.len) (drop at bytes) ≡ drop u.after bytes = drop-drop (f.gap + f.len) at bytes ∙ ap (λ j. drop j bytes) (sym after) in
    let next : PartsAre (drop u.after bytes) (k - u.after) = subst (PartsAre (drop u.after bytes)) count (subst (λ x. PartsAre x (k - at - (f.gap + f.len))) behind found.1) in
    let more = open_walk file bytes s u.after k place ts t one e fits within next stop no_mark rest last in
    record {
      no_semi = All-cons (λ x. x.token ≢ token.semi) u ts other more.no_semi;
      in_file = record { place = more.in_file.place; tokens = tokens.more (first_same bytes file at s u there f) nl more.in_file.tokens; next = more.in_file.next };
      end = more.end;
    }

-- ---- the first token of a piece

names : (t : Symbol) → MayBegin t 35 → (n : ℕ) × (t ≡ token.name n)
names (token.name n) h = (n, refl)
names (token.keyword s) h = absurd (omega arith)
names (token.int s) h = absurd (omega arith)
names (token.real s) h = absurd (omega arith)
names token.end h = absurd h
names token.bad h = absurd h
names _ h = absurd (omega arith)

spelled_name : (rest : List ℕ) (n : ℕ) (t : Symbol) → Longest (35 ∷ rest) n t → (m : ℕ) × (t ≡ token.name m)
spelled_name rest zero t l = absurd (begins [] (35 ∷ rest) t l.spelled)
spelled_name rest (suc n) t l = names t (begins (35 ∷ take n rest) (drop n rest) t l.spelled)

named : (text rest : List ℕ) (n : ℕ) (t : Symbol) → text ≡ 35 ∷ rest → Front text n t → ((m : ℕ) × (t ≡ token.name m)) ⊎ (t ≡ token.bad)
named text rest n t e (tokens.token l) = inl (spelled_name rest n t (subst (λ x. Longest x n t) e l))
named text rest n t e tokens.ended = cc
named text rest n t e (tokens.none some nothing) = inr refl

pub first_named : (text rest : List ℕ) (at : ℕ) (t : Placed) → drop at text ≡ 35 ∷ rest → First text at t → ((m : ℕ) × (t.token ≡ token.name m)) ⊎ (t.token ≡ token.bad)
first_named text rest at t e f =
    let gap : f.gap ≡ 0 = byte_gap (drop at text) rest f.gap 35 e (λ h. omega arith) f.passes in
    named (drop at text) rest f.len t.token e (subst (λ g. Front (drop g (drop at text)) f.len t.token) gap f.front)

-- what comes before the last token of a piece begins with its name
pub begins_name : (text rest : List ℕ) (s : ℕ) (ts body : List Placed) (last : Placed) → text ≡ 35 ∷ rest → Tokens text 0 ts → ts ≡ body ++ last ∷ [] → BeginsWithName (shifted s body) ⊎ (shifted s body ≡ [])
begins_name text rest s ts [] last e toks f = inr refl
begins_name text rest s ts (t ∷ body) last e (tokens.last h l) f = absurd (one_token body last f) where
  one_token : {x y : Placed} (body : List Placed) (last : Placed) → ¬ (x ∷ [] ≡ y ∷ (body ++ last ∷ []))
  one_token [] last f = cc
  one_token (z ∷ body) last f = cc
begins_name text rest s ts (t ∷ body) last e (tokens.more {t = u} {ts = us} h nl others) f =
    let same : u ≡ t = cc in
    inl (elim (first_named text rest 0 u e h) [ inl n ↦ (n.0, ap (λ x. x.token) (sym same) ∙ n.1) | inr b ↦ absurd (nl (subst IsLast (sym b) tokens.at_bad)) ])

-- the first of some tokens of a piece is its name, unless none begins there
pub begins_first : (text rest : List ℕ) (s place : ℕ) (before : List Placed) (t : Placed) → text ≡ 35 ∷ rest → TokensUpTo text 0 before place → First text place t → BeginsWithName (shifted s (before ++ t ∷ [])) ⊎ (t.token ≡ token.bad)
begins_first text rest s place before t e tokens.none f = first_named text rest 0 t e f
begins_first text rest s place before t e (tokens.more {t = u} g nl others) f =
    elim (first_named text rest 0 u e g) [ inl n ↦ inl n | inr b ↦ absurd (nl (subst IsLast (sym b) tokens.at_bad)) ]

-- the first token of a piece is its name, or none begins there
first_of_piece : (text rest : List ℕ) (ts body : List Placed) (first : Placed) → text ≡ 35 ∷ rest → Tokens text 0 ts → ts ≡ first ∷ body → ((m : ℕ) × (first.token ≡ token.name m)) ⊎ (first.token ≡ token.bad)
first_of_piece text rest ts body first e (tokens.last {t = u} h l) f = let same : u ≡ first = cc in subst (λ x. ((m : ℕ) × (x.token ≡ token.name m)) ⊎ (x.token ≡ token.bad)) same (first_named text rest 0 u e h)
first_of_piece text rest ts body first e (tokens.more {t = u} h nl others) f = let same : u ≡ first = cc in subst (λ x. ((m : ℕ) × (x.token ≡ token.name m)) ⊎ (x.token ≡ token.bad)) same (first_named text rest 0 u e h)

-- no `;` is the first token of a piece, and no End
pub no_semi_first : (text rest : List ℕ) (ts body : List Placed) (semi : Placed) → text ≡ 35 ∷ rest → Tokens text 0 ts → ts ≡ semi ∷ body → semi.token ≢ token.semi
no_semi_first text rest ts body semi e toks f = not_semi semi.token (first_of_piece text rest ts body semi e toks f) where
  not_semi : (t : Symbol) → ((m : ℕ) × (t ≡ token.name m)) ⊎ (t ≡ token.bad) → t ≢ token.semi
  not_semi t (inl n) e = let other = n.1 in cc
  not_semi t (inr b) e = cc

pub no_end_first : (text rest : List ℕ) (ts body : List Placed) (end : Placed) → text ≡ 35 ∷ rest → Tokens text 0 ts → ts ≡ end ∷ body → end.token ≢ token.end
no_end_first text rest ts body end e toks f = not_end end.token (first_of_piece text rest ts body end e toks f) where
  not_end : (t : Symbol) → ((m : ℕ) × (t ≡ token.name m)) ⊎ (t ≡ token.bad) → t ≢ token.end
  not_end t (inl n) e = let other = n.1 in cc
  not_end t (inr b) e = cc

front_name : (text : List ℕ) (n m : ℕ) (t : Symbol) → Front text n t → t ≡ token.name m → BeginsWithByte 35 text
front_name text n m t (tokens.token l) e =
    let spelled = subst (Spells (take n text) (drop n text)) e l.spelled in begins_by text spelled.0 n 35 spelled.1
front_name text n m t tokens.ended e = cc
front_name text n m t (tokens.none some nothing) e = cc

-- the first token of a tail is no name
pub first_no_name : (text : List ℕ) (at : ℕ) (t : Placed) → ¬ (BeginsWithByte 35 (drop at text)) → ((gap : ℕ) → Passes (drop at text) gap → gap ≡ 0) → First text at t → ¬ ((n : ℕ) × (t.token ≡ token.name n))
first_no_name text at t none still f n =
    let gap : f.gap ≡ 0 = still f.gap f.passes in
    none (front_name (drop at text) f.len n.0 t.token (subst (λ g. Front (drop g (drop at text)) f.len t.token) gap f.front) n.1)

pub tail_no_name : (text : List ℕ) (at : ℕ) (ts : List Placed) → ¬ (BeginsWithByte 35 (drop at text)) → ((gap : ℕ) → Passes (drop at text) gap → gap ≡ 0) → Tokens text at ts → ¬ (BeginsWithName ts)
tail_no_name text at ts none still (tokens.last {t = t} f l) = first_no_name text at t none still f
tail_no_name text at ts none still (tokens.more {t = t} f nl rest) = first_no_name text at t none still f
