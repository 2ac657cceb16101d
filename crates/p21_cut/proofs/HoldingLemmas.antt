-- The tokens of a file are those of its pieces in turn and of its tail.
use Rattle.std.proofs.Common.{◌≡◌, ◌≢◌, ℕ, zero, suc, ◌+◌, ◌-◌, ◌<◌, ◌≤◌, ◌⊎◌, inl, inr, List, [], ◌∷◌, ◌++◌, length, take, drop, refl, sym, ap, subst, ◌∙◌, arith, length-take-le, append_assoc, add-zero}
use Rattle.std.proofs.lemmas.List.{drop-drop, length-drop, drop_all, map-append, take_all}
use Rattle.std.proofs.Math.Seq.{take-add}
use Rattle.std.proofs.lemmas.List.Elements.{All-map}
use Rattle.p21_text.specs.Separators.{IsSeparators}
use Rattle.p21_text.specs.Separators as separators
use Rattle.p21_text.specs.Spelling as token
use Rattle.p21_text.specs.Tokens.{Passes, Front, First, Placed, Tokens, TokensUpTo, IsLast}
use Rattle.p21_text.specs.Tokens as tokens
use Rattle.p21_text.specs.Laws.{HasOneListAtMost}
use Rattle.p21_tree.specs.Laws.{IsTokenList}
use Rattle.p21_tree.specs.Laws as laws
use Rattle.p21_tree.specs.Texts.{shift, shifted}
use Rattle.p21_tree.specs.InOrder.{BeginsWithName, HasNoSemi, Joined}
use Rattle.p21_tree.specs.InOrder as order
use Rattle.p21_cut.specs.Pieces.{BeginsWithByte, IsPlain, PartsAre, HasNoPart, Piece, PieceIs, PiecesAre}
use Rattle.p21_cut.specs.Pieces as pieces
use Rattle.p21_cut.specs.Tokens.{TokensOfEach, PiecesHoldTokens, PartsHoldTokens, TokensAndNext, InFile, PieceTokensAreOfFile, TailTokensAreOfFile}
use Rattle.p21_cut.specs.Tokens as each
use Rattle.p21_cut.proofs.StretchLemmas.{OneString, parts_alike}
use Rattle.p21_cut.proofs.PieceTokenLemmas.{parts_fit, no_gap, ClosedWalk, inside, closed, closed_walk, OpenWalk, open_walk, tokens_at_end, end_or_bad, begins_name, begins_first, no_semi_first, no_end_first, first_no_name, tail_no_name}

-- ---- separators before a place

separators_on : (a b : List ℕ) → IsSeparators a → IsSeparators b → IsSeparators (a ++ b)
separators_on a b separators.none t = t
separators_on a b (separators.white w s) t = separators.white w (separators_on _ b s t)
separators_on a b (separators.comment {front = front} {rest = rest} e c s) t = separators.comment (ap (λ l. l ++ b) e ∙ append_assoc front rest b) c (separators_on rest b s t)

-- after separators that cannot be extended stand no more
pub none_more : (text : List ℕ) (gap more : ℕ) → Passes text gap → more ≤ length (drop gap text) → IsSeparators (take more (drop gap text)) → more ≤ 0
none_more text gap more p k s =
    let fits : gap + more ≤ length text = (let h = p.fits in omega (arith, h, k, length-drop gap text)) in
    let whole : IsSeparators (take (gap + more) text) = subst IsSeparators (sym (take-add gap more text)) (separators_on (take gap text) (take more (drop gap text)) p.separators s) in
    let most : gap + more ≤ gap = p.longest (gap + more) fits whole in omega (arith, most)

still : (text : List ℕ) (gap more : ℕ) → Passes text gap → Passes (drop gap text) more → more ≡ 0
still text gap more p q = let none : more ≤ 0 = none_more text gap more p q.fits q.separators in omega (arith, none)

pub still_there : (file : List ℕ) (at gap more : ℕ) → Passes (drop at file) gap → Passes (drop (at + gap) file) more → more ≡ 0
still_there file at gap more p q = still (drop at file) gap more p (subst (λ l. Passes l more) (sym (drop-drop gap at file)) q)

first_before : (file : List ℕ) (at gap : ℕ) (t : Placed) → Passes (drop at file) gap → First file (at + gap) t → First file at t
first_before file at gap t p f =
    let none : f.gap ≡ 0 = still_there file at gap f.gap p f.passes in
    let front : Front (drop (at + gap) file) f.len t.token = subst (λ g. Front (drop g (drop (at + gap) file)) f.len t.token) none f.front in
    record {
      gap = gap;
      len = f.len;
      passes = p;
      front = subst (λ l. Front l f.len t.token) (sym (drop-drop gap at file)) front;
      start_is = omega (arith, f.start_is, none);
      after_is = f.after_is;
    }

-- the tokens after separators are those from before them
tokens_before : (file : List ℕ) (at gap : ℕ) (ts : List Placed) → Passes (drop at file) gap → Tokens file (at + gap) ts → Tokens file at ts
tokens_before file at gap ts p (tokens.last {t = t} f l) = tokens.last (first_before file at gap t p f) l
tokens_before file at gap ts p (tokens.more {t = t} f nl rest) = tokens.more (first_before file at gap t p f) nl rest

token_list : (text : List ℕ) (at : ℕ) (ts : List Placed) → Tokens text at ts → IsTokenList ts
token_list text at ts (tokens.last f l) = laws.last l
token_list text at ts (tokens.more {t = t} {ts = others} f nl rest) = laws.more nl (token_list text t.after others rest)

-- ---- one piece

pub hash_plain : (behind : List ℕ) → IsPlain 35 behind
hash_plain behind = record { no_semicolon = λ e. omega arith; no_apostrophe = λ e. omega arith; opens_nothing = λ e. absurd (omega arith) }

-- the bytes up to a `;` and after it
pub at_mark : (rest : List ℕ) (n : ℕ) → BeginsWithByte 59 (drop n rest) → (rest ≡ take n rest ++ 59 ∷ drop (suc n) rest) × ((take (suc n) rest ≡ take n rest ++ 59 ∷ []) × (n < length rest))
at_mark [] zero h = absurd h
at_mark [] (suc n) h = absurd h
at_mark (x ∷ rest) zero h = (ap (λ b. b ∷ rest) h, (ap (λ b. b ∷ []) h, omega arith))
at_mark (x ∷ rest) (suc n) h = let u = at_mark rest n h in (ap (λ l. x ∷ l) u.0, (ap (λ l. x ∷ l) u.1.0, (let v = u.1.1 in omega arith)))

moved_no_semi : (s : ℕ) (body : List Placed) → HasNoSemi body → HasNoSemi (shifted s body)
moved_no_semi s body h = All-map (λ (t : Placed). t.token ≢ token.semi) (shift s) body h

-- a piece in which no token begins somewhere
stopped_piece : (s : ℕ) (ts body tail : List Placed) (tss : List (List Placed)) (last : Placed) → ts ≡ body ++ last ∷ [] → last.token ≡ token.bad → HasNoSemi body → BeginsWithName (shifted s body) ⊎ (shifted s body ≡ []) → Joined (shifted s ts ∷ tss) tail (shifted s ts)
stopped_piece s ts body tail tss last e b none name =
    let whole : shifted s ts ≡ shifted s body ++ shift s last ∷ [] = ap (shifted s) e ∙ map-append (shift s) body (last ∷ []) in
    rw whole (order.bad (shifted s body) (shift s last) name (moved_no_semi s body none) b)

closed_name : (bytes rest : List ℕ) (s : ℕ) (ts body : List Placed) (semi last : Placed) → bytes ≡ 35 ∷ rest → Tokens bytes 0 ts → ts ≡ body ++ semi ∷ last ∷ [] → semi.token ≡ token.semi → BeginsWithName (shifted s body)
closed_name bytes rest s ts [] semi last e toks parts k = absurd (no_semi_first bytes rest ts (last ∷ []) semi e toks parts k)
closed_name bytes rest s ts (t ∷ body) semi last e toks parts k =
    elim (begins_name bytes rest s ts (t ∷ (body ++ semi ∷ [])) last e toks (parts ∙ ap (λ l. t ∷ l) (sym (append_assoc body (semi ∷ []) (last ∷ []))))) [ inl n ↦ n | inr none ↦ cc ]

-- what is to be shown of a piece
Held : List ℕ → ℕ → List (List Placed) → List Placed → Type 0
Held file start tss tail = (rest : List Placed) × (Tokens file start rest × Joined tss tail rest)

-- all tokens of a text, and the last of them
record AllTokens (text : List ℕ) (at : ℕ) (ts : List Placed) : Type 0 where
  before : List Placed
  last : Placed
  parts : ts ≡ before ++ last ∷ []
  is_last : IsLast last.token
  up_to : TokensAndNext text at before last

all_tokens : (text : List ℕ) (at : ℕ) (ts : List Placed) → Tokens text at ts → AllTokens text at ts
all_tokens text at ts (tokens.last {t = t} f l) = record { before = []; last = t; parts = refl; is_last = l; up_to = record { place = at; tokens = tokens.none; next = f } }
all_tokens text at ts (tokens.more {t = t} {ts = others} f nl rest) =
    let all : AllTokens text t.after others = all_tokens text t.after others rest in
    record {
      before = t ∷ all.before;
      last = all.last;
      parts = ap (λ l. t ∷ l) all.parts;
      is_last = all.is_last;
      up_to = record { place = all.up_to.place; tokens = tokens.more f nl all.up_to.tokens; next = all.up_to.next };
    }

-- the tokens up to a place, and those after it
tokens_on : (text : List ℕ) (at place : ℕ) (before rest : List Placed) → TokensUpTo text at before place → Tokens text place rest → Tokens text at (before ++ rest)
tokens_on text at place before rest tokens.none h = h
tokens_on text at place before rest (tokens.more {t = t} {ts = ts} f nl others) h = tokens.more f nl (tokens_on text t.after place ts rest others h)

-- the tokens of a piece up to the last of them
moved_all : (file : List ℕ) (s : ℕ) (ts before : List Placed) (last : Placed) → ts ≡ before ++ last ∷ [] → IsLast last.token → TokensAndNext file (s + 0) (shifted s before) (shift s last) → Tokens file s (shifted s ts)
moved_all file s ts before last e l h =
    let whole : shifted s ts ≡ shifted s before ++ shift s last ∷ [] = ap (shifted s) e ∙ map-append (shift s) before (last ∷ []) in
    subst (λ j. Tokens file j (shifted s ts)) (add-zero s) (subst (Tokens file (s + 0)) (sym whole) (tokens_on file (s + 0) h.place (shifted s before) (shift s last ∷ []) h.tokens (tokens.last h.next l)))

closed_held : (file bytes : List ℕ) (start end : ℕ) (ts before tail : List Placed) (last : Placed) (tss : List (List Placed)) (rest : List ℕ) → bytes ≡ 35 ∷ rest → Tokens bytes 0 ts → ts ≡ before ++ last ∷ [] → IsLast last.token → ClosedWalk file start end 0 before last → Held file end tss tail
    → Held file start (shifted start ts ∷ tss) tail
unfolding Held
closed_held file bytes start end ts before tail last tss rest e toks parts is_last (inside none no_end in_file) next =
    let b : last.token ≡ token.bad = elim (end_or_bad last.token is_last) [ inl k ↦ absurd (no_end k) | inr k ↦ k ] in
    (shifted start ts, (moved_all file start ts before last parts is_last in_file, stopped_piece start ts before tail tss last parts b none (begins_name bytes rest start ts before last e toks parts)))
closed_held file bytes start end ts before tail last tss rest e toks parts is_last (closed body semi up none k l in_file) next =
    let own : ts ≡ body ++ semi ∷ last ∷ [] = parts ∙ (ap (λ x. x ++ last ∷ []) up ∙ append_assoc body (semi ∷ []) (last ∷ [])) in
    let others : List Placed = shifted start body ++ shift start semi ∷ next.0 in
    let name : BeginsWithName (shifted start body) = closed_name bytes rest start ts body semi last e toks own k in
    let whole : shifted start ts ≡ shifted start body ++ shift start semi ∷ shift start last ∷ [] = ap (shifted start) own ∙ map-append (shift start) body (semi ∷ last ∷ []) in
    let front : shifted start before ++ next.0 ≡ others = ap (λ x. x ++ next.0) (ap (shifted start) up ∙ map-append (shift start) body (semi ∷ [])) ∙ append_assoc (shifted start body) (shift start semi ∷ []) next.0 in (
      others,
      (
        subst (λ j. Tokens file j others) (add-zero start) (subst (Tokens file (start + 0)) front (tokens_on file (start + 0) end (shifted start before) next.0 in_file next.1.0)),
        subst (λ p. Joined (p ∷ tss) tail others) (sym whole) (order.piece (shifted start body) (shift start semi) (shift start last) name (moved_no_semi start body none) k l next.1.1),
      ),
    )

-- after the end of a file stand no pieces
none_left : (file : List ℕ) (at number end : ℕ) (ps : List Piece) → drop at file ≡ [] → PiecesAre file at number ps end → (ps ≡ []) × (end ≡ at)
none_left file at number end ps e (pieces.tail {gap = gap} p s) = let none : gap ≡ 0 = no_gap (drop at file) gap e p in (refl, omega (arith, none))
none_left file at number end ps e (pieces.piece (pieces.made {gap = gap} {len = len} p one) more) = absurd (nothing (drop (at + gap) file) len (sym (drop-drop gap at file) ∙ ap (drop gap) e ∙ drop_all gap [] (omega arith)) one) where
  nothing : (text : List ℕ) (len : ℕ) → text ≡ [] → ¬ (PieceIs text len)
  nothing text len e (pieces.closed parts s) = cc
  nothing text len e (pieces.open_ parts s none) = cc

none_each : (ps : List Piece) (tss : List (List Placed)) → ps ≡ [] → TokensOfEach ps tss → tss ≡ []
none_each ps tss e each.none = refl
none_each ps tss e (each.more t others) = cc

pub same_placed : (t u : Placed) → t.start ≡ u.start → t.after ≡ u.after → t.token ≡ u.token → t ≡ u
same_placed t u e f g = λ i. record { start = e i; after = f i; token = g i }

open_name : (bytes rest : List ℕ) (s : ℕ) (ts body : List Placed) (last : Placed) → bytes ≡ 35 ∷ rest → Tokens bytes 0 ts → ts ≡ body ++ last ∷ [] → last.token ≡ token.end → BeginsWithName (shifted s body)
open_name bytes rest s ts [] last e toks parts k = absurd (no_end_first bytes rest ts [] last e toks parts k)
open_name bytes rest s ts (t ∷ body) last e toks parts k = elim (begins_name bytes rest s ts (t ∷ body) last e toks parts) [ inl n ↦ n | inr none ↦ cc ]

open_joined : (file bytes : List ℕ) (start : ℕ) (ts before tail : List Placed) (last : Placed) (tss : List (List Placed)) (rest : List ℕ) → bytes ≡ 35 ∷ rest → Tokens bytes 0 ts → ts ≡ before ++ last ∷ [] → (walk : OpenWalk file bytes start 0 before last) → tss ≡ []
    → ((end : Placed) × (tail ≡ end ∷ []) × (end.token ≡ token.end) × (end.start ≡ start + length bytes) × (end.after ≡ start + length bytes)) → last.token ≡ token.end → Joined (shifted start ts ∷ tss) tail (shifted start ts)
open_joined file bytes start ts before tail last tss rest e toks parts walk none there k =
    let place = walk.end k in
    let same : shift start last ≡ there.0 = same_placed (shift start last) there.0 (ap (λ j. start + j) place.0 ∙ sym there.3) (ap (λ j. start + j) place.1 ∙ sym there.4) (k ∙ sym there.2) in
    let body : List Placed = shifted start before in
    let whole : shifted start ts ≡ body ++ shift start last ∷ [] = ap (shifted start) parts ∙ map-append (shift start) before (last ∷ []) in
    let ends : shift start last ∷ [] ≡ tail = ap (λ t. t ∷ []) same ∙ sym there.1 in
    let cut : Joined ((body ++ shift start last ∷ []) ∷ []) (shift start last ∷ []) (body ++ shift start last ∷ []) =
    order.cut body (shift start last) (open_name bytes rest start ts before last e toks parts k) (moved_no_semi start before walk.no_semi) k in
    rw (whole, none) (subst (λ t. Joined ((body ++ shift start last ∷ []) ∷ []) t (body ++ shift start last ∷ [])) ends cut)

open_held : (file bytes : List ℕ) (start number end : ℕ) (ps : List Piece) (ts before tail : List Placed) (last : Placed) (tss : List (List Placed)) (rest : List ℕ) → bytes ≡ 35 ∷ rest → drop start file ≡ bytes → Tokens bytes 0 ts → ts ≡ before ++ last ∷ [] → IsLast last.token → OpenWalk file bytes start 0 before last
    → PiecesAre file (start + length bytes) number ps end → TokensOfEach ps tss → Tokens file end tail → Held file start (shifted start ts ∷ tss) tail
unfolding Held
open_held file bytes start number end ps ts before tail last tss rest e here toks parts is_last walk more tokens_of in_tail =
    (shifted start ts, (moved_all file start ts before last parts is_last walk.in_file, joined)) where
      behind : drop (start + length bytes) file ≡ []
      behind = sym (drop-drop (length bytes) start file) ∙ ap (drop (length bytes)) here ∙ drop_all (length bytes) bytes (omega arith)

      nothing : (ps ≡ []) × (end ≡ start + length bytes)
      nothing = none_left file (start + length bytes) number end ps behind more

      joined : Joined (shifted start ts ∷ tss) tail (shifted start ts)
      joined = elim (end_or_bad last.token is_last) [
        | inl k ↦ open_joined file bytes start ts before tail last tss rest e toks parts walk (none_each ps tss nothing.0 tokens_of) (tokens_at_end file (start + length bytes) tail behind (subst (λ j. Tokens file j tail) nothing.1 in_tail)) k
        | inr b ↦ stopped_piece start ts before tail tss last parts b walk.no_semi (begins_name bytes rest start ts before last e toks parts)
      ]

-- ---- first tokens of a piece

-- what they are in the file, whether a `;` closes the piece or not
data PieceWalk (file : List ℕ) (start len : ℕ) (bytes : List ℕ) (before : List Placed) (t : Placed) : Type 0 where
  closed_piece : (rest : List ℕ) → bytes ≡ 35 ∷ rest → ClosedWalk file start (start + len) 0 before t → PieceWalk file start len bytes before t
  open_piece : (rest : List ℕ) → bytes ≡ 35 ∷ rest → drop start file ≡ bytes → len ≡ length bytes → OpenWalk file bytes start 0 before t → PieceWalk file start len bytes before t

piece_walk : (file text : List ℕ) (start len : ℕ) (before : List Placed) (t : Placed) → OneString → drop start file ≡ text → PieceIs text len → TokensAndNext (take len text) 0 before t → PieceWalk file start len (take len text) before t
piece_walk file text start len before t one e (pieces.closed {rest = rest} {n = n} parts mark) up =
    let split = at_mark rest n mark in
    let front : List ℕ = 35 ∷ take n rest in
    let behind : List ℕ = drop (suc n) rest in
    let count : n + 2 ≡ suc (suc n) = omega arith in
    let bytes : take (n + 2) (35 ∷ rest) ≡ front ++ 59 ∷ [] = ap (λ k. take k (35 ∷ rest)) count ∙ ap (λ l. 35 ∷ l) split.1.0 in
    let here : drop start file ≡ front ++ 59 ∷ behind = e ∙ ap (λ l. 35 ∷ l) split.0 in
    let small : n ≤ length (take n rest) = (let h = split.1.1 in omega (arith, h, length-take-le n rest (omega arith))) in
    let long : length front ≡ n + 1 = (let h = split.1.1 in omega (arith, length-take-le n rest (omega arith))) in
    let inner : PartsAre (take n rest ++ 59 ∷ []) n = parts_alike rest (take n rest) behind [] n split.0 small parts in
    let all : PartsAre (front ++ 59 ∷ []) (n + 1) = pieces.more (pieces.byte (hash_plain (take n rest ++ 59 ∷ []))) inner (omega arith) in
    let none : n + 1 ≡ length front - 0 = omega (arith, long) in
    let own : PartsAre (drop 0 (take (n + 2) (35 ∷ rest))) (length front - 0) = subst (λ l. PartsAre l (length front - 0)) (sym bytes) (subst (PartsAre (front ++ 59 ∷ [])) none all) in
    let walk = closed_walk file (take (n + 2) (35 ∷ rest)) front behind start 0 up.place before t one bytes here (omega arith) own up.tokens up.next in
    let place : start + length front + 1 ≡ start + (n + 2) = omega (arith, long) in
    closed_piece (take n rest ++ 59 ∷ []) bytes (subst (λ j. ClosedWalk file start j 0 before t) place walk)
piece_walk file text start len before t one e (pieces.open_ {rest = rest} {n = n} parts mark none) up =
    let bytes : List ℕ = 35 ∷ rest in
    let whole : take (length rest + 1) bytes ≡ bytes = take_all (length rest + 1) bytes (omega arith) in
    let all : PartsAre bytes (n + 1) = pieces.more (pieces.byte (hash_plain rest)) parts (omega arith) in
    let fits : n ≤ length rest = parts_fit rest n parts in
    let count : n + 1 ≡ suc n = omega arith in
    let nothing : n + 1 ≡ n + 1 - 0 = omega arith in
    let stops : HasNoPart (drop (n + 1) bytes) = rw count none in
    let no_mark : ¬ (BeginsWithByte 59 (drop (n + 1) bytes)) = rw count mark in
    let own : TokensUpTo bytes 0 before up.place = subst (λ l. TokensUpTo l 0 before up.place) whole up.tokens in
    let walk = open_walk file bytes start 0 (n + 1) up.place before t one e (omega arith) (omega (arith, fits)) (subst (PartsAre bytes) nothing all) stops no_mark own (subst (λ l. First l up.place t) whole up.next) in
    let long : length rest + 1 ≡ length bytes = omega arith in
    open_piece rest whole (e ∙ sym whole) (long ∙ ap length (sym whole)) (subst (λ l. OpenWalk file l start 0 before t) (sym whole) walk)

-- from before the separators on
first_behind : (file : List ℕ) (at gap from : ℕ) (t : Placed) → Passes (drop at file) gap → from ≡ at + gap → First file from t → First file at t
first_behind file at gap from t p e f = first_before file at gap t p (subst (λ j. First file j t) e f)

up_to_from : (file : List ℕ) (at gap from place : ℕ) (before : List Placed) (t : Placed) → Passes (drop at file) gap → from ≡ at + gap → TokensUpTo file from before place → First file place t → TokensAndNext file at before t
up_to_from file at gap from place before t p e tokens.none f = record { place = at; tokens = tokens.none; next = first_behind file at gap from t p e f }
up_to_from file at gap from place before t p e (tokens.more {t = u} g nl others) f = record { place = place; tokens = tokens.more (first_behind file at gap from u p e g) nl others; next = f }

up_to_before : (file : List ℕ) (at gap : ℕ) (before : List Placed) (t : Placed) → Passes (drop at file) gap → TokensAndNext file (at + gap) before t → TokensAndNext file at before t
up_to_before file at gap before t p h = up_to_from file at gap (at + gap) h.place before t p refl h.tokens h.next

some_before : (file : List ℕ) (at gap from end : ℕ) (before body : List Placed) (semi : Placed) → Passes (drop at file) gap → from ≡ at + gap → before ≡ body ++ semi ∷ [] → TokensUpTo file from before end → TokensUpTo file at before end
some_before file at gap from end before body semi p q e tokens.none = absurd (not_empty body e) where
  not_empty : (body : List Placed) → ¬ ([] ≡ body ++ semi ∷ [])
  not_empty [] e = cc
  not_empty (u ∷ body) e = cc
some_before file at gap from end before body semi p q e (tokens.more {t = u} f nl others) = tokens.more (first_behind file at gap from u p q f) nl others

pub piece_in_file : OneString → PieceTokensAreOfFile
piece_in_file one file at number next _ before t (pieces.made {gap = gap} {len = len} p piece) up = found (piece_walk file (drop start file) start len before t one refl piece up) where
  start : ℕ
  start = at + gap

  bytes : List ℕ
  bytes = take len (drop start file)

  own : Piece
  own = record { number = number; at = start; bytes = bytes }

  inner : (rest : List ℕ) → bytes ≡ 35 ∷ rest → HasNoSemi before → TokensAndNext file (start + 0) (shifted start before) (shift start t) → InFile file at (start + len) own before t
  inner rest e none in_file =
      each.inside none (begins_first bytes rest start up.place before t e up.tokens up.next) (up_to_before file at gap (shifted start before) (shift start t) p (subst (λ j. TokensAndNext file j (shifted start before) (shift start t)) (add-zero start) in_file))

  found : PieceWalk file start len bytes before t → InFile file at (start + len) own before t
  found (closed_piece rest e (inside none no_end in_file)) = inner rest e none in_file
  found (closed_piece rest e (closed body semi parts none k l in_file)) =
      let moved : shifted start before ≡ shifted start body ++ shift start semi ∷ [] = ap (shifted start) parts ∙ map-append (shift start) body (semi ∷ []) in
      each.whole body semi parts none k l (some_before file at gap start (start + len) (shifted start before) (shifted start body) (shift start semi) p refl moved (subst (λ j. TokensUpTo file j (shifted start before) (start + len)) (add-zero start) in_file))
  found (open_piece rest e here long walk) = inner rest e walk.no_semi walk.in_file

-- ---- all pieces

one_held : (file text : List ℕ) (start len number end : ℕ) (ps : List Piece) (ts tail : List Placed) (tss : List (List Placed)) → OneString → drop start file ≡ text → PieceIs text len → Tokens (take len text) 0 ts
    → PiecesAre file (start + len) number ps end → TokensOfEach ps tss → Tokens file end tail → Held file (start + len) tss tail → Held file start (shifted start ts ∷ tss) tail
one_held file text start len number end ps ts tail tss one e piece toks more tokens_of in_tail next = found (piece_walk file text start len all.before all.last one e piece all.up_to) where
  all : AllTokens (take len text) 0 ts
  all = all_tokens (take len text) 0 ts toks

  found : PieceWalk file start len (take len text) all.before all.last → Held file start (shifted start ts ∷ tss) tail
  found (closed_piece rest f walk) = closed_held file (take len text) start (start + len) ts all.before tail all.last tss rest f toks all.parts all.is_last walk next
  found (open_piece rest f here long walk) =
      open_held file (take len text) start number end ps ts all.before tail all.last tss rest f here toks all.parts all.is_last walk (subst (λ j. PiecesAre file (start + j) number ps end) long more) tokens_of in_tail

held : (file : List ℕ) (at number end : ℕ) (ps : List Piece) (tss : List (List Placed)) (tail : List Placed) → OneString → PiecesAre file at number ps end → TokensOfEach ps tss → Tokens file end tail → Held file at tss tail
unfolding Held
held file at number end ps tss tail one (pieces.tail {gap = gap} p s) each.none in_tail =
    (tail, (tokens_before file at gap tail p in_tail, order.tail (token_list file (at + gap) tail in_tail) (tail_no_name file (at + gap) tail s (λ g q. still_there file at gap g p q) in_tail)))
held file at number end ps tss tail one (pieces.piece {others = others} (pieces.made {gap = gap} {len = len} p piece) more) (each.more {ts = ts} {tss = rest} own tokens_of) in_tail =
    let start : ℕ = at + gap in
    let next : Held file (start + len) rest tail = held file (start + len) (number + 1) end others rest tail one more tokens_of in_tail in
    let found : Held file start (shifted start ts ∷ rest) tail = one_held file (drop start file) start len (number + 1) end others ts tail rest one refl piece own more tokens_of in_tail next in
    (found.0, (tokens_before file at gap found.0 p found.1.0, found.1.1))

pub pieces_hold : OneString → ((text : List ℕ) (at : ℕ) → HasOneListAtMost text at) → (file : List ℕ) (at : ℕ) → PiecesHoldTokens file at
unfolding Held
pieces_hold one unique file at = λ number end ps tss tail rest cut tokens_of in_tail in_file.
    let found = held file at number end ps tss tail one cut tokens_of in_tail in
    subst (Joined tss tail) (unique file at found.0 rest found.1.0 in_file) found.1.1

pub parts_hold : OneString → ((text : List ℕ) (at : ℕ) → HasOneListAtMost text at) → (file : List ℕ) → PartsHoldTokens file
parts_hold one unique file at number end ps tss before tail rest up cut tokens_of in_tail in_file =
    (tokens_on file 0 at before rest up in_file, pieces_hold one unique file at number end ps tss tail rest cut tokens_of in_tail in_file)

-- ---- first tokens of the tail

no_name_first : (file : List ℕ) (at place : ℕ) (before : List Placed) (t : Placed) → ¬ (BeginsWithByte 35 (drop at file)) → ((g : ℕ) → Passes (drop at file) g → g ≡ 0) → TokensUpTo file at before place → First file place t → ¬ (BeginsWithName (before ++ t ∷ []))
no_name_first file at place before t s still tokens.none f = first_no_name file at t s still f
no_name_first file at place before t s still (tokens.more {t = u} g nl others) f = first_no_name file at u s still g

pub tail_in_file : TailTokensAreOfFile
tail_in_file file at number _ before t (pieces.tail {gap = gap} p s) up =
    (up_to_before file at gap before t p up, no_name_first file (at + gap) up.place before t s (λ g q. still_there file at gap g p q) up.tokens up.next)
