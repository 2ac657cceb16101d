-- A file is cut in one way alone.
use Rattle.std.proofs.Common.{◌≡◌, ◌≢◌, ℕ, zero, suc, ◌+◌, ◌-◌, ◌<◌, ◌≤◌, ◌⊎◌, inl, inr, List, [], ◌∷◌, ◌++◌, length, take, drop, slice_index, refl, sym, ap, subst, ◌∙◌, arith, length-append, length-take-le, map, zero-add}
use Rattle.std.proofs.lemmas.List.{get_or-take, get_or-append_right, drop-drop}
use Rattle.p21_text.specs.Separators.{IsComment}
use Rattle.p21_text.specs.Spelling.{Spells, str}
use Rattle.p21_text.specs.Tokens.{Passes}
use Rattle.p21_text.specs.Laws.{HasOneString}
use Rattle.p21_cut.specs.Laws.{HasOneNextAtMost}
use Rattle.p21_cut.specs.Pieces.{BeginsWithByte, IsPlain, PartIs, PartsAre, HasNoPart, Piece, PieceIs, IsNext, PiecesAre}
use Rattle.p21_cut.specs.Pieces as pieces

either_le : (n m : ℕ) → (n ≤ m) ⊎ (m ≤ n)
either_le zero m = inl (omega arith)
either_le (suc n) zero = inr (omega arith)
either_le (suc n) (suc m) = elim (either_le n m) [ inl h ↦ inl (omega arith) | inr h ↦ inr (omega arith) ]

-- ---- comments

comment_len : (text : List ℕ) (n : ℕ) → n ≤ length text → (c : IsComment (take n text)) → n ≡ length c.body + 4
comment_len text n h c = omega (arith, sym (length-take-le n text h), ap length c.spelled, length-append c.body (42 ∷ 47 ∷ []))

-- the byte at a place after the `/*`
comment_byte : (text : List ℕ) (n k : ℕ) → n ≤ length text → (c : IsComment (take n text)) → k + 2 < n → slice_index (c.body ++ 42 ∷ 47 ∷ []) k ≡ slice_index text (k + 2)
comment_byte text n k h c u =
    let place : k + 2 ≡ suc (suc k) = omega arith in
    let spelled : slice_index (take n text) (suc (suc k)) ≡ slice_index (c.body ++ 42 ∷ 47 ∷ []) k = ap (λ l. slice_index l (suc (suc k))) c.spelled in
    sym (ap (slice_index text) place ∙ sym (get_or-take n text (suc (suc k)) 0 (omega arith)) ∙ spelled)

-- of two comments at one place neither is longer
comment_same : (text : List ℕ) (n m : ℕ) → n ≤ length text → m ≤ length text → n ≤ m → IsComment (take n text) → IsComment (take m text) → n ≡ m
comment_same text n m h k u c d =
    let a : ℕ = length c.body in
    let one : n ≡ a + 4 = comment_len text n h c in
    let two : m ≡ length d.body + 4 = comment_len text m k d in
    let closes : (j : ℕ) → j < 2 → slice_index (d.body ++ 42 ∷ 47 ∷ []) (a + j) ≡ slice_index (42 ∷ 47 ∷ []) j =
    λ j v.
    let there : slice_index (c.body ++ 42 ∷ 47 ∷ []) (a + j) ≡ slice_index (42 ∷ 47 ∷ []) (a + j - a) = get_or-append_right c.body (42 ∷ 47 ∷ []) a (a + j) 0 refl (omega arith) in
    let index : a + j - a ≡ j = omega arith in
    comment_byte text m (a + j) k d (omega (arith, u, one, v)) ∙ sym (comment_byte text n (a + j) h c (omega (arith, one, v))) ∙ there ∙ ap (slice_index (42 ∷ 47 ∷ [])) index in
    let fits : a + 2 ≤ length (d.body ++ 42 ∷ 47 ∷ []) = omega (arith, u, one, two, length-append d.body (42 ∷ 47 ∷ [])) in
    let end : a ≡ length d.body = d.once a (record { fits = fits; reads = closes }) in
    omega (arith, one, two, end)

comment_once : (text : List ℕ) (n m : ℕ) → n ≤ length text → m ≤ length text → IsComment (take n text) → IsComment (take m text) → n ≡ m
comment_once text n m h k c d = elim (either_le n m) [ inl u ↦ comment_same text n m h k u c d | inr u ↦ sym (comment_same text m n k h u d c) ]

-- ---- parts

-- the first bytes of a text
pub begins_by : (text rest : List ℕ) (n b : ℕ) → take n text ≡ b ∷ rest → BeginsWithByte b text
begins_by [] rest zero b e = cc
begins_by [] rest (suc n) b e = cc
begins_by (c ∷ text) rest zero b e = cc
begins_by (c ∷ text) rest (suc n) b e = cc

two_firsts : (text : List ℕ) (b c : ℕ) → b ≢ c → BeginsWithByte b text → ¬ (BeginsWithByte c text)
two_firsts [] b c other h k = absurd h
two_firsts (x ∷ text) b c other h k = other (sym h ∙ k)

string_begins : (text body : List ℕ) (n : ℕ) → Spells (take n text) (drop n text) (str body) → BeginsWithByte 39 text
string_begins text body n s = begins_by text (body ++ 39 ∷ []) n 39 s.0

comment_begins : (text : List ℕ) (n : ℕ) → IsComment (take n text) → BeginsWithByte 47 text
comment_begins text n c = begins_by text (42 ∷ (c.body ++ 42 ∷ 47 ∷ [])) n 47 c.spelled

comment_star : (b : ℕ) (behind : List ℕ) (n : ℕ) → IsComment (take n (b ∷ behind)) → BeginsWithByte 42 behind
comment_star b behind zero c = let spelled = c.spelled in cc
comment_star b behind (suc n) c =
    let spelled : b ∷ take n behind ≡ 47 ∷ (42 ∷ (c.body ++ 42 ∷ 47 ∷ [])) = c.spelled in
    let rest : take n behind ≡ 42 ∷ (c.body ++ 42 ∷ 47 ∷ []) = cc in
    begins_by behind (c.body ++ 42 ∷ 47 ∷ []) n 42 rest

plain_no_comment : (b : ℕ) (behind : List ℕ) (n : ℕ) → IsPlain b behind → ¬ (IsComment (take n (b ∷ behind)))
plain_no_comment b behind n p c = p.opens_nothing (comment_begins (b ∷ behind) n c) (comment_star b behind n c)

pub part_once : (text : List ℕ) (n m : ℕ) → HasOneString text → PartIs text n → PartIs text m → n ≡ m
part_once text n m one (pieces.string {body = a} h s) (pieces.string {body = b} k u) = (one n m (str a) b h k s u).0
part_once text n m one (pieces.string {body = a} h s) (pieces.comment k c) = absurd (two_firsts text 39 47 (λ e. omega arith) (string_begins text a n s) (comment_begins text m c))
part_once text n m one (pieces.string {body = a} h s) (pieces.byte p) = absurd (p.no_apostrophe (string_begins text a n s))
part_once text n m one (pieces.comment h c) (pieces.string {body = b} k u) = absurd (two_firsts text 39 47 (λ e. omega arith) (string_begins text b m u) (comment_begins text n c))
part_once text n m one (pieces.comment h c) (pieces.comment k d) = comment_once text n m h k c d
part_once text n m one (pieces.comment h c) (pieces.byte {b = b} {behind = behind} p) = absurd (plain_no_comment b behind n p c)
part_once text n m one (pieces.byte p) (pieces.string {body = b} k u) = absurd (p.no_apostrophe (string_begins text b m u))
part_once text n m one (pieces.byte {b = b} {behind = behind} p) (pieces.comment k d) = absurd (plain_no_comment b behind m p d)
part_once text n m one (pieces.byte p) (pieces.byte q) = refl

-- no part begins with a semicolon
pub no_part_at_semicolon : (text : List ℕ) → BeginsWithByte 59 text → HasNoPart text
no_part_at_semicolon text h n (pieces.string {body = body} k s) = two_firsts text 59 39 (λ e. omega arith) h (string_begins text body n s)
no_part_at_semicolon text h n (pieces.comment k c) = two_firsts text 59 47 (λ e. omega arith) h (comment_begins text n c)
no_part_at_semicolon text h n (pieces.byte p) = p.no_semicolon h

strings_behind : (n : ℕ) (text : List ℕ) → ((at : ℕ) → HasOneString (drop at text)) → (at : ℕ) → HasOneString (drop at (drop n text))
strings_behind n text one at = rw (drop-drop at n text) (one (n + at))

-- parts that go as far as they can end at one place
stop_once : (text : List ℕ) (n m : ℕ) → ((at : ℕ) → HasOneString (drop at text)) → PartsAre text n → PartsAre text m → HasNoPart (drop n text) → HasNoPart (drop m text) → n ≡ m
stop_once text n m one pieces.none pieces.none h k = refl
stop_once text n m one pieces.none (pieces.more {n = a} p ps e) h k = absurd (h a p)
stop_once text n m one (pieces.more {n = a} p ps e) pieces.none h k = absurd (k a p)
stop_once text n m one (pieces.more {n = a} {m = others} p ps e) (pieces.more {n = b} {m = rest} q qs f) h k =
    let same : a ≡ b = part_once text a b (one 0) p q in
    let behind : PartsAre (drop a text) rest = subst (λ j. PartsAre (drop j text) rest) (sym same) qs in
    let stops : HasNoPart (drop others (drop a text)) = rw (drop-drop others a text) (subst (λ j. HasNoPart (drop j text)) e h) in
    let place : m ≡ a + rest = omega (arith, same, f) in
    let ends : HasNoPart (drop rest (drop a text)) = rw (drop-drop rest a text) (subst (λ j. HasNoPart (drop j text)) place k) in
    let left : others ≡ rest = stop_once (drop a text) others rest (strings_behind a text one) ps behind stops ends in
    omega (arith, e, place, left)

-- ---- pieces

piece_once : (text : List ℕ) (n m : ℕ) → ((at : ℕ) → HasOneString (drop at text)) → PieceIs text n → PieceIs text m → n ≡ m
piece_once text n m one (pieces.closed {rest = rest} {n = a} p s) (pieces.closed {n = b} q t) =
    ap (λ j. j + 2) (stop_once rest a b (λ at. one (suc at)) p q (no_part_at_semicolon (drop a rest) s) (no_part_at_semicolon (drop b rest) t))
piece_once text n m one (pieces.closed {rest = rest} {n = a} p s) (pieces.open_ {n = b} q t none) =
    let same : a ≡ b = stop_once rest a b (λ at. one (suc at)) p q (no_part_at_semicolon (drop a rest) s) none in
    absurd (t (subst (λ j. BeginsWithByte 59 (drop j rest)) same s))
piece_once text n m one (pieces.open_ {rest = rest} {n = a} p s none) (pieces.closed {n = b} q t) =
    let same : a ≡ b = stop_once rest a b (λ at. one (suc at)) p q none (no_part_at_semicolon (drop b rest) t) in
    absurd (s (subst (λ j. BeginsWithByte 59 (drop j rest)) (sym same) t))
piece_once text n m one (pieces.open_ p s none) (pieces.open_ q t other) = refl

pub passes_once : (text : List ℕ) (n m : ℕ) → Passes text n → Passes text m → n ≡ m
passes_once text n m p q =
    let a : m ≤ n = p.longest m q.fits q.separators in
    let b : n ≤ m = q.longest n p.fits p.separators in omega (arith, a, b)

piece_begins : (text : List ℕ) (n : ℕ) → PieceIs text n → BeginsWithByte 35 text
piece_begins text n (pieces.closed p s) = refl
piece_begins text n (pieces.open_ p s none) = refl

-- what comes next is one piece
next_once : (file : List ℕ) (at number n m : ℕ) (p q : Piece) → ((k : ℕ) → HasOneString (drop k file)) → IsNext file at number p n → IsNext file at number q m → (p ≡ q) × (n ≡ m)
next_once file at number _ _ _ _ one (pieces.made {gap = g} {len = a} p u) (pieces.made {gap = h} {len = b} q v) =
    let same : g ≡ h = passes_once (drop at file) g h p q in
    let here : PieceIs (drop (at + g) file) b = subst (λ j. PieceIs (drop (at + j) file) b) (sym same) v in
    let len : a ≡ b = piece_once (drop (at + g) file) a b (strings_behind (at + g) file one) u here in (
      ap (λ j. record { number = number; at = at + j; bytes = take a (drop (at + j) file) }) same ∙ ap (λ j. record { number = number; at = at + h; bytes = take j (drop (at + h) file) }) len,
      omega (arith, same, len),
    )

-- no piece comes next where the tail begins
no_next : (file : List ℕ) (at number end n : ℕ) (p : Piece) → PiecesAre file at number [] end → IsNext file at number p n → ⊥
no_next file at number end n p (pieces.tail {gap = g} r s) (pieces.made {gap = h} {len = len} q u) =
    let same : g ≡ h = passes_once (drop at file) g h r q in
    s (subst (λ j. BeginsWithByte 35 (drop (at + j) file)) (sym same) (piece_begins (drop (at + h) file) len u))

pub one_next : (file : List ℕ) (at : ℕ) → ((k : ℕ) → HasOneString (drop k file)) → HasOneNextAtMost file at
one_next file at one number p n next = (λ q m other. next_once file at number n m p q one next other, λ end tail. no_next file at number end n p tail next)

pub pieces_once : (file : List ℕ) (at number : ℕ) (ps qs : List Piece) (end other : ℕ) → ((k : ℕ) → HasOneString (drop k file)) → PiecesAre file at number ps end → PiecesAre file at number qs other → (ps ≡ qs) × (end ≡ other)
pieces_once file at number ps qs end other one (pieces.tail {gap = g} p s) (pieces.tail {gap = h} q t) =
    let same : g ≡ h = passes_once (drop at file) g h p q in (refl, ap (λ j. at + j) same)
pieces_once file at number ps qs end other one (pieces.tail p s) (pieces.piece {next = n} {p = q} next more) = absurd (no_next file at number end n q (pieces.tail p s) next)
pieces_once file at number ps qs end other one (pieces.piece {next = n} {p = p} next more) (pieces.tail q t) = absurd (no_next file at number other n p (pieces.tail q t) next)
pieces_once file at number ps qs end other one (pieces.piece {next = n} {p = p} {others = xs} next more) (pieces.piece {next = m} {p = q} {others = ys} here rest) =
    let same = next_once file at number n m p q one next here in
    let left = pieces_once file n (number + 1) xs ys end other one more (subst (λ j. PiecesAre file j (number + 1) ys other) (sym same.1) rest) in
    (ap (λ x. x ∷ xs) same.0 ∙ ap (λ l. q ∷ l) left.0, left.1)

-- ---- numbers

-- the piece with a number that is so much larger
raised : ℕ → Piece → Piece
raised n p = record { number = p.number + n; at = p.at; bytes = p.bytes }

raised_next : (file : List ℕ) (at number next n : ℕ) (p : Piece) → IsNext file at number p next → IsNext file at (number + n) (raised n p) next
unfolding raised
raised_next file at number next n p (pieces.made q u) = pieces.made q u

pieces_raised : (file : List ℕ) (at number end n : ℕ) (ps : List Piece) → PiecesAre file at number ps end → PiecesAre file at (number + n) (map (raised n) ps) end
pieces_raised file at number end n ps (pieces.tail q s) = pieces.tail q s
pieces_raised file at number end n ps (pieces.piece {next = next} {p = p} {others = others} one more) =
    let count : number + 1 + n ≡ number + n + 1 = omega arith in
    pieces.piece (raised_next file at number next n p one) (subst (λ k. PiecesAre file next k (map (raised n) others) end) count (pieces_raised file next (number + 1) end n others more))

-- one cutting from the number 0 on gives one from each number on
pub from_each_number : (file : List ℕ) (at end number : ℕ) (ps : List Piece) → ((k : ℕ) → HasOneString (drop k file)) → PiecesAre file at 0 ps end → end ≤ length file
    → (qs : List Piece) × (other : ℕ) × PiecesAre file at number qs other × (other ≤ length file) × ((rs : List Piece) (last : ℕ) → PiecesAre file at number rs last → (rs ≡ qs) × (last ≡ other))
from_each_number file at end number ps one cut within =
    let there : PiecesAre file at number (map (raised number) ps) end = subst (λ k. PiecesAre file at k (map (raised number) ps) end) (zero-add number) (pieces_raised file at 0 end number ps cut) in
    (map (raised number) ps, end, there, within, λ rs last other. pieces_once file at number rs (map (raised number) ps) last end one other there)
