-- Parts of a piece, found by tokens and by single bytes.
use Rattle.std.proofs.Common.{◌≡◌, ◌≢◌, ℕ, zero, suc, ◌+◌, ◌-◌, ◌<◌, ◌≤◌, ◌⊎◌, inl, inr, List, [], ◌∷◌, ◌++◌, length, take, drop, slice_index, refl, sym, ap, subst, ◌∙◌, arith, length-append, length-take-le, append-nil, add-zero, zero-add, Bor}
use Rattle.std.proofs.lemmas.List.{drop_at, take_at, drop-drop, drop_more, length-drop, append_assoc, take-append-drop, take_rest}
use Rattle.p21_text.specs.Separators.{IsSeparators, IsComment, IsWhite}
use Rattle.p21_text.specs.Separators as separators
use Rattle.p21_text.specs.Spelling.{Symbol, Spells, str, symbol}
use Rattle.p21_text.specs.Tokens.{Passes, Front, First, Placed, Longest, NoneBegins}
use Rattle.p21_text.specs.Tokens as tokens
use Rattle.p21_text.specs.declared.token.Token.{Token}
use Rattle.p21_text.specs.declared.token.Token.TheVariants as variants
use Rattle.p21_text.specs.Laws.{HasOneString}
use Rattle.memchr.specs.Find.{Nowhere, Passes as FoundAt, is_byte3}
use Rattle.p21_cut.specs.Pieces.{BeginsWithByte, IsPlain, PartIs, PartsAre, HasNoPart, PieceIs}
use Rattle.p21_cut.specs.Pieces as pieces

-- ---- parts one after the other

pub one_part : (text : List ℕ) (n : ℕ) → PartIs text n → PartsAre text n
one_part text n p = pieces.more p pieces.none (sym (add-zero n))

pub parts_on : (text : List ℕ) (n m : ℕ) → PartsAre text n → PartsAre (drop n text) m → PartsAre text (n + m)
parts_on text n m pieces.none later = subst (PartsAre text) (sym (zero-add m)) later
parts_on text k m (pieces.more {n = first} {m = others} p ps e) later =
    let behind : PartsAre (drop others (drop first text)) m = rw (drop-drop others first text) (subst (λ j. PartsAre (drop j text) m) e later) in
    let sum : k + m ≡ first + (others + m) = omega arith in
    pieces.more p (parts_on (drop first text) others m ps behind) sum

-- ---- separators

white_plain : (b : ℕ) (behind : List ℕ) → IsWhite b → IsPlain b behind
white_plain b behind w = record {
  no_semicolon = λ e. omega arith;
  no_apostrophe = λ e. omega arith;
  opens_nothing = λ e. absurd (omega arith);
}

-- a comment stands at the front of a text
comment_part : (front behind : List ℕ) → IsComment front → PartIs (front ++ behind) (length front)
comment_part front behind c =
    let fits : length front ≤ length (front ++ behind) = rw length-append (omega arith) in
    pieces.comment fits (rw (take_at front behind (length front) refl) c)

pub separator_parts : (text behind : List ℕ) → IsSeparators text → PartsAre (text ++ behind) (length text)
separator_parts text behind separators.none = pieces.none
separator_parts text behind (separators.white {b = b} {rest = rest} w s) =
    let sum : suc (length rest) ≡ 1 + length rest = omega arith in
    pieces.more (pieces.byte (white_plain b (rest ++ behind) w)) (separator_parts rest behind s) sum
separator_parts text behind (separators.comment {front = front} {rest = rest} e c s) =
    let parts : text ++ behind ≡ front ++ (rest ++ behind) = ap (λ l. l ++ behind) e ∙ append_assoc front rest behind in
    let long : length text ≡ length front + length rest = ap length e ∙ length-append front rest in
    let later : PartsAre (drop (length front) (front ++ (rest ++ behind))) (length rest) = rw (drop_at front (rest ++ behind) (length front) refl) (separator_parts rest behind s) in
    rw parts (pieces.more (comment_part front (rest ++ behind) c) later long)

-- ---- strings

-- what separators begin with
separators_first : (text rest : List ℕ) (b : ℕ) → text ≡ b ∷ rest → IsSeparators text → IsWhite b ⊎ (b ≡ 47)
separators_first text rest b e separators.none = cc
separators_first text rest b e (separators.white {b = w} p s) = let same : w ≡ b = cc in inl (subst IsWhite same p)
separators_first text rest b e (separators.comment {front = front} {rest = behind} f c s) =
    let whole : b ∷ rest ≡ 47 ∷ ((42 ∷ (c.body ++ 42 ∷ 47 ∷ [])) ++ behind) = sym e ∙ f ∙ ap (λ l. l ++ behind) c.spelled in
    let same : b ≡ 47 = cc in inr same

-- nothing is passed before a byte that begins no separator
pub byte_gap : (text rest : List ℕ) (gap b : ℕ) → text ≡ b ∷ rest → ¬ (IsWhite b ⊎ (b ≡ 47)) → Passes text gap → gap ≡ 0
byte_gap text rest zero b e other p = refl
byte_gap text rest (suc gap) b e other p =
    let front : take (suc gap) text ≡ b ∷ take gap rest = ap (take (suc gap)) e in
    absurd (other (separators_first (take (suc gap) text) (take gap rest) b front p.separators))

apostrophe_gap : (text rest : List ℕ) (gap : ℕ) → text ≡ 39 ∷ rest → Passes text gap → gap ≡ 0
apostrophe_gap text rest gap e p = byte_gap text rest gap 39 e (λ h. omega arith) p

front_part : (text body : List ℕ) (n : ℕ) (t : Symbol) → Front text n t → t ≡ str body → PartIs text n
front_part text body n t (tokens.token l) s = pieces.string l.fits (subst (Spells (take n text) (drop n text)) s l.spelled)
front_part text body n t tokens.ended s = cc
front_part text body n t (tokens.none some nothing) s = cc

-- the place after a token that an apostrophe begins
pub string_parts : (file rest body : List ℕ) (at : ℕ) (t : Placed) → drop at file ≡ 39 ∷ rest → First file at t → t.token ≡ str body → PartsAre (drop at file) (t.after - at)
string_parts file rest body at t e f s =
    let none : f.gap ≡ 0 = apostrophe_gap (drop at file) rest f.gap e f.passes in
    let front : Front (drop at file) f.len t.token = subst (λ g. Front (drop g (drop at file)) f.len t.token) none f.front in
    let len : f.len ≡ t.after - at = omega (arith, f.start_is, f.after_is) in
    subst (PartsAre (drop at file)) len (one_part (drop at file) f.len (front_part (drop at file) body f.len t.token front s))

missing : (text rest : List ℕ) (n : ℕ) (t : Symbol) → text ≡ 39 ∷ rest → Front text n t → ((body : List ℕ) → t ≢ str body) → HasOneString text
    → (m : ℕ) (body : List ℕ) → m ≤ length text → ¬ (Spells (take m text) (drop m text) (str body))
missing text rest n t e (tokens.token l) other one m body h s = other body (one n m t body l.fits h l.spelled s).1
missing text rest n t e tokens.ended other one m body h s = cc
missing text rest n t e (tokens.none some nothing) other one m body h s = nothing m (str body) h s

-- a comment does not begin with another byte than a solidus
no_comment : (text rest : List ℕ) (n b : ℕ) → text ≡ b ∷ rest → b ≢ 47 → ¬ (IsComment (take n text))
no_comment text rest zero b e other c = let spelled = c.spelled in cc
no_comment text rest (suc n) b e other c =
    let front : b ∷ take n rest ≡ 47 ∷ (42 ∷ (c.body ++ 42 ∷ 47 ∷ [])) = sym (ap (take (suc n)) e) ∙ c.spelled in
    let same : b ≡ 47 = cc in other same

only_strings : (text rest : List ℕ) → text ≡ 39 ∷ rest → ((m : ℕ) (body : List ℕ) → m ≤ length text → ¬ (Spells (take m text) (drop m text) (str body))) → HasNoPart text
only_strings text rest e never n (pieces.string {body = body} h s) = never n body h s
only_strings text rest e never n (pieces.comment h c) = no_comment text rest n 39 e (λ f. omega arith) c
only_strings text rest e never n (pieces.byte {b = b} p) = let same : b ≡ 39 = cc in p.no_apostrophe same

-- where no string is found at an apostrophe, no part begins
pub string_missing : (file rest : List ℕ) (at : ℕ) (t : Placed) → drop at file ≡ 39 ∷ rest → First file at t → ((body : List ℕ) → t.token ≢ str body) → HasOneString (drop at file) → HasNoPart (drop at file)
string_missing file rest at t e f other one =
    let none : f.gap ≡ 0 = apostrophe_gap (drop at file) rest f.gap e f.passes in
    let front : Front (drop at file) f.len t.token = subst (λ g. Front (drop g (drop at file)) f.len t.token) none f.front in
    only_strings (drop at file) rest e (missing (drop at file) rest f.len t.token e front other one)

pub not_string : (t : Token) → ((x : Bor (List ℕ)) → t ≢ variants.Str x) → (body : List ℕ) → symbol t ≢ str body
not_string (variants.Str x) other body e = other x refl
not_string _ other body e = cc

-- ---- comments

-- the separators that a text begins with are parts
pub taken_parts : (text : List ℕ) (n : ℕ) → n ≤ length text → IsSeparators (take n text) → PartsAre text n
taken_parts text n h s =
    let long : length (take n text) ≡ n = length-take-le n text h in
    subst (λ l. PartsAre l n) (take-append-drop n text) (subst (PartsAre (take n text ++ drop n text)) long (separator_parts (take n text) (drop n text) s))

pub passed_parts : (text : List ℕ) (n : ℕ) → Passes text n → PartsAre text n
passed_parts text n p = taken_parts text n p.fits p.separators

comment_alone : (text : List ℕ) → IsComment text → IsSeparators text
comment_alone text c = separators.comment (sym (append-nil text)) c separators.none

-- a comment is passed
no_comment_passed : (text : List ℕ) (n : ℕ) → Passes text 0 → n ≤ length text → ¬ (IsComment (take n text))
no_comment_passed text zero p h c = let spelled = c.spelled in cc
no_comment_passed text (suc n) p h c = let most : suc n ≤ 0 = p.longest (suc n) h (comment_alone (take (suc n) text) c) in absurd (omega arith)

no_string_else : (text rest body : List ℕ) (n b : ℕ) → text ≡ b ∷ rest → b ≢ 39 → ¬ (Spells (take n text) (drop n text) (str body))
no_string_else text rest body zero b e other s = let spelled = s.0 in cc
no_string_else text rest body (suc n) b e other s =
    let front : b ∷ take n rest ≡ 39 ∷ (body ++ 39 ∷ []) = sym (ap (take (suc n)) e) ∙ s.0 in
    let same : b ≡ 39 = cc in other same

-- where nothing is passed at a `/*`, no part begins
pub comment_missing : (text rest : List ℕ) → text ≡ 47 ∷ 42 ∷ rest → Passes text 0 → HasNoPart text
comment_missing text rest e p n (pieces.string {body = body} h s) = no_string_else text (42 ∷ rest) body n 47 e (λ f. omega arith) s
comment_missing text rest e p n (pieces.comment h c) = no_comment_passed text n p h c
comment_missing text rest e p n (pieces.byte {b = b} {behind = behind} q) =
    let first : b ≡ 47 = cc in
    let others : behind ≡ 42 ∷ rest = cc in q.opens_nothing first (rw others refl)

-- ---- plain bytes

-- a byte that is none of the three marks
abbrev pub IsPlainAt : List ℕ → ℕ → Type 0
IsPlainAt text k = (slice_index text k ≢ 59) × (slice_index text k ≢ 39) × (slice_index text k ≢ 47)

pub plain_run : (text : List ℕ) (n : ℕ) → n ≤ length text → ((k : ℕ) → k < n → IsPlainAt text k) → PartsAre text n
plain_run text zero h each = pieces.none
plain_run [] (suc n) h each = absurd (omega arith)
plain_run (b ∷ rest) (suc n) h each =
    let first : IsPlainAt (b ∷ rest) 0 = each 0 (omega arith) in
    let plain : IsPlain b rest = record { no_semicolon = first.0; no_apostrophe = first.1; opens_nothing = λ e. absurd (first.2 e) } in
    let sum : suc n ≡ 1 + n = omega arith in
    pieces.more (pieces.byte plain) (plain_run rest n (omega arith) (λ k u. each (suc k) (omega arith))) sum

-- a solidus that begins no comment
pub lone_solidus : (file : List ℕ) (at : ℕ) → at < length file → slice_index file at ≡ 47 → ¬ (BeginsWithByte 42 (drop (at + 1) file)) → PartsAre (drop at file) (at + 1 - at)
lone_solidus file at h e stops =
    let here : drop at file ≡ 47 ∷ drop (at + 1) file = drop_more file at 0 h ∙ ap (λ b. b ∷ drop (at + 1) file) e in
    let plain : IsPlain 47 (drop (at + 1) file) = record { no_semicolon = λ f. omega arith; no_apostrophe = λ f. omega arith; opens_nothing = λ f. stops } in
    let long : 1 ≡ at + 1 - at = omega arith in
    rw here (subst (PartsAre (47 ∷ drop (at + 1) file)) long (one_part (47 ∷ drop (at + 1) file) 1 (pieces.byte plain)))

pub not_before : (b : ℕ) (file : List ℕ) (at : ℕ) → (length file ≤ at) ⊎ (slice_index file at ≢ b) → ¬ (BeginsWithByte b (drop at file))
not_before b [] zero h e = absurd e
not_before b [] (suc at) h e = absurd e
not_before b (x ∷ file) zero (inl h) e = absurd (omega arith)
not_before b (x ∷ file) zero (inr h) e = h e
not_before b (x ∷ file) (suc at) (inl h) e = not_before b file at (inl (omega arith)) e
not_before b (x ∷ file) (suc at) (inr h) e = not_before b file at (inr h) e

-- the bytes before a mark
pub before_mark : (file : List ℕ) (at n : ℕ) → n ≤ length (drop at file) → Nowhere (FoundAt (is_byte3 59 39 47) (take (length file - at) (drop at file))) 0 n → PartsAre (drop at file) n
before_mark file at n h nowhere =
    let none : Nowhere (FoundAt (is_byte3 59 39 47) (drop at file)) 0 n = subst (λ l. Nowhere (FoundAt (is_byte3 59 39 47) l) 0 n) (take_rest file at) nowhere in
    plain_run (drop at file) n h (λ k u.
    let not_here = none k (omega arith) u in
    (λ e. not_here (rw e refl), λ e. not_here (rw e refl), λ e. not_here (rw e refl)))

-- parts from one place to another, and on to a third
pub parts_to : (file : List ℕ) (from at to : ℕ) → from ≤ at → at ≤ to → PartsAre (drop from file) (at - from) → PartsAre (drop at file) (to - at) → PartsAre (drop from file) (to - from)
parts_to file from at to h k before behind =
    let place : from + (at - from) ≡ at = omega arith in
    let sum : (at - from) + (to - at) ≡ to - from = omega arith in
    let next : PartsAre (drop (at - from) (drop from file)) (to - at) = rw (drop-drop (at - from) from file) (rw place behind) in
    subst (PartsAre (drop from file)) sum (parts_on (drop from file) (at - from) (to - at) before next)

-- ---- a piece

begins_with : (b : ℕ) (file : List ℕ) (at : ℕ) → at < length file → slice_index file at ≡ b → BeginsWithByte b (drop at file)
begins_with b file at h e = rw (drop_more file at 0 h) e

-- what stands after the `#` of a piece
behind_mark : (file : List ℕ) (start at : ℕ) → start + 1 ≤ at → drop (at - (start + 1)) (drop (start + 1) file) ≡ drop at file
behind_mark file start at h = let place : start + 1 + (at - (start + 1)) ≡ at = omega arith in drop-drop (at - (start + 1)) (start + 1) file ∙ ap (λ n. drop n file) place

pub closed_piece : (file : List ℕ) (start mark : ℕ) → start < length file → slice_index file start ≡ 35 → start + 1 ≤ mark → PartsAre (drop (start + 1) file) (mark - (start + 1))
    → mark < length file → slice_index file mark ≡ 59 → PieceIs (drop start file) (mark + 1 - start)
closed_piece file start mark h e k parts w s =
    let here : drop start file ≡ 35 ∷ drop (start + 1) file = drop_more file start 0 h ∙ ap (λ b. b ∷ drop (start + 1) file) e in
    let long : mark - (start + 1) + 2 ≡ mark + 1 - start = omega arith in
    let closes : BeginsWithByte 59 (drop (mark - (start + 1)) (drop (start + 1) file)) = rw (behind_mark file start mark k) (begins_with 59 file mark w s) in
    rw here (subst (PieceIs (35 ∷ drop (start + 1) file)) long (pieces.closed parts closes))

pub open_piece : (file : List ℕ) (start at : ℕ) → start < length file → slice_index file start ≡ 35 → start + 1 ≤ at → PartsAre (drop (start + 1) file) (at - (start + 1))
    → ¬ (BeginsWithByte 59 (drop at file)) → HasNoPart (drop at file) → PieceIs (drop start file) (length file - start)
open_piece file start at h e k parts stops none =
    let here : drop start file ≡ 35 ∷ drop (start + 1) file = drop_more file start 0 h ∙ ap (λ b. b ∷ drop (start + 1) file) e in
    let long : length (drop (start + 1) file) + 1 ≡ length file - start = omega (arith, length-drop (start + 1) file) in
    let same = behind_mark file start at k in
    rw here (subst (PieceIs (35 ∷ drop (start + 1) file)) long (pieces.open_ parts (rw same stops) (rw same none)))

empty_take : (text : List ℕ) (n b : ℕ) (rest : List ℕ) → text ≡ [] → take n text ≢ b ∷ rest
empty_take text zero b rest e f = cc
empty_take text (suc n) b rest e f = let none : take (suc n) text ≡ [] = ap (take (suc n)) e in cc

-- no part begins at the end of a text
pub nothing_left : (text : List ℕ) → text ≡ [] → HasNoPart text
nothing_left text e n (pieces.string {body = body} h s) = empty_take text n 39 (body ++ 39 ∷ []) e s.0
nothing_left text e n (pieces.comment h c) = empty_take text n 47 (42 ∷ (c.body ++ 42 ∷ 47 ∷ [])) e c.spelled
nothing_left text e n (pieces.byte p) = cc

-- parts up to the next mark
pub up_to_mark : (file : List ℕ) (start at n : ℕ) → start + 1 ≤ at → PartsAre (drop (start + 1) file) (at - (start + 1)) → n ≤ length (drop at file)
    → Nowhere (FoundAt (is_byte3 59 39 47) (take (length file - at) (drop at file))) 0 n → PartsAre (drop (start + 1) file) (at + n - (start + 1))
up_to_mark file start at n h before k nowhere =
    let long : n ≡ at + n - at = omega arith in
    parts_to file (start + 1) at (at + n) h (omega arith) before (subst (PartsAre (drop at file)) long (before_mark file at n k nowhere))
