-- Tokens of a file are those of the next piece, or of the tail.
use Rattle.std.proofs.Common.{◌≡◌, ◌≢◌, ℕ, suc, ◌+◌, ◌-◌, ◌≤◌, List, [], ◌∷◌, ◌++◌, length, take, drop, refl, sym, ap, subst, ◌∙◌, arith, length-append, length-take-le}
use Rattle.std.proofs.lemmas.List.{drop-drop, length-drop, drop-append-le, drop_all}
use Rattle.std.proofs.lemmas.List.Elements.{All-head, All-tail}
use Rattle.p21_text.specs.Separators.{IsSeparators}
use Rattle.p21_text.specs.Separators as separators
use Rattle.p21_text.specs.Spelling as token
use Rattle.p21_text.specs.Tokens.{Passes, Front, First, Placed, Tokens, TokensUpTo, IsLast}
use Rattle.p21_text.specs.Tokens as tokens
use Rattle.p21_tree.specs.Texts.{shift, shifted}
use Rattle.p21_tree.specs.InOrder.{HasNoSemi}
use Rattle.p21_cut.specs.Pieces.{BeginsWithByte, PartsAre, HasNoPart, Piece, PieceIs, IsNext}
use Rattle.p21_cut.specs.Pieces as pieces
use Rattle.p21_cut.specs.Tokens.{FileTokensAreOfPiece, PieceBeginsWithName, FileTokensAreOfTail}
use Rattle.p21_cut.proofs.OneCuttingLemmas.{passes_once}
use Rattle.p21_cut.proofs.StretchLemmas.{OneString, first_alike, stops_at_mark}
use Rattle.p21_cut.proofs.PieceTokenLemmas.{first_semi, first_more, first_named, tail_no_name}
use Rattle.p21_cut.proofs.HoldingLemmas.{at_mark, hash_plain, none_more, same_placed, still_there}

-- ---- from after the separators on

first_from : (file : List ℕ) (at gap : ℕ) (t : Placed) → Passes (drop at file) gap → First file at t → First file (at + gap) t
first_from file at gap t p f =
    let same : f.gap ≡ gap = passes_once (drop at file) f.gap gap f.passes p in
    record {
      gap = 0;
      len = f.len;
      passes = record {
        fits = omega arith;
        separators = separators.none;
        longest = λ m u s. none_more (drop at file) gap m p (subst (λ l. m ≤ length l) (sym (drop-drop gap at file)) u) (subst (λ l. IsSeparators (take m l)) (sym (drop-drop gap at file)) s);
      };
      front = subst (λ l. Front l f.len t.token) (ap (λ g. drop g (drop at file)) same ∙ drop-drop gap at file) f.front;
      start_is = (let h = f.start_is in omega (arith, same));
      after_is = f.after_is;
    }

tokens_from : (file : List ℕ) (at gap : ℕ) (ts : List Placed) → Passes (drop at file) gap → Tokens file at ts → Tokens file (at + gap) ts
tokens_from file at gap ts p (tokens.last {t = t} f l) = tokens.last (first_from file at gap t p f) l
tokens_from file at gap ts p (tokens.more {t = t} f nl rest) = tokens.more (first_from file at gap t p f) nl rest

-- ---- where no piece comes

pub of_tail : FileTokensAreOfTail
of_tail file at number _ ts (pieces.tail {gap = gap} p s) toks =
    let there : Tokens file (at + gap) ts = tokens_from file at gap ts p toks in
    (there, tail_no_name file (at + gap) ts s (λ g q. still_there file at gap g p q) there)

-- ---- where a piece comes

hash_first : (text : List ℕ) (len : ℕ) → PieceIs text len → (rest : List ℕ) × (text ≡ 35 ∷ rest)
hash_first text len (pieces.closed {rest = rest} parts mark) = (rest, refl)
hash_first text len (pieces.open_ {rest = rest} parts mark none) = (rest, refl)

pub begins_with_name : PieceBeginsWithName
begins_with_name file at number _ _ t (pieces.made {gap = gap} {len = len} p piece) f =
    let hash = hash_first (drop (at + gap) file) len piece in
    first_named file hash.0 (at + gap) t hash.1 (first_from file at gap t p f)

end_first : (text : List ℕ) (at : ℕ) → drop at text ≡ [] → First text at (record { start = at; after = at; token = token.end })
end_first text at e = record {
  gap = 0;
  len = 0;
  passes = record { fits = omega arith; separators = separators.none; longest = λ m u s. subst (λ l. m ≤ length l) e u };
  front = subst (λ l. Front l 0 token.end) (sym e) tokens.ended;
  start_is = omega arith;
  after_is = omega arith;
}

nothing_between : (text : List ℕ) (at place : ℕ) (ts : List Placed) → TokensUpTo text at ts place → ts ≡ [] → place ≡ at
nothing_between text at place ts tokens.none e = refl
nothing_between text at place ts (tokens.more f nl rest) e = absurd (cc)

not_empty : (body : List Placed) (semi : Placed) → ¬ ([] ≡ body ++ semi ∷ [])
not_empty [] semi e = cc
not_empty (t ∷ body) semi e = cc

-- Up to the `;` that closes it a piece has the tokens of the file.
record Back (bytes : List ℕ) (s at : ℕ) (ts : List Placed) : Type 0 where
  own : List Placed
  end : Placed
  tokens : Tokens bytes at (own ++ end ∷ [])
  is_end : end.token ≡ token.end
  moved : shifted s own ≡ ts

-- where the file goes on after some bytes of a piece
goes_on : (text front r : List ℕ) (s from at : ℕ) → drop s text ≡ front ++ 59 ∷ r → from ≡ s + at → at ≤ length front → drop from text ≡ drop at front ++ 59 ∷ r
goes_on text front r s from at g begins h = ap (λ j. drop j text) begins ∙ (sym (drop-drop at s text) ∙ (ap (drop at) g ∙ drop-append-le at front (59 ∷ r) h))

back : (file bytes front r : List ℕ) (s from at place : ℕ) (ts body : List Placed) (semi : Placed) → OneString → bytes ≡ front ++ 59 ∷ [] → drop s file ≡ front ++ 59 ∷ r → from ≡ s + at → at ≤ length front → PartsAre (drop at front ++ 59 ∷ r) (length (drop at front))
    → TokensUpTo file from ts place → ts ≡ body ++ semi ∷ [] → HasNoSemi body → semi.token ≡ token.semi → (place ≡ s + length front + 1) × Back bytes s at ts
back file bytes front r s from at place ts body semi one e g begins h all tokens.none parts none k = absurd (not_empty body semi parts)
back file bytes front r s from at place _ [] semi one e g begins h all (tokens.more {t = u} {ts = ts} f nl rest) parts none k =
    let left : List ℕ = drop at front in
    let there : drop from file ≡ left ++ 59 ∷ r = goes_on file front r s from at g begins h in
    let here : drop at bytes ≡ left ++ 59 ∷ [] = ap (drop at) e ∙ drop-append-le at front (59 ∷ []) h in
    let same : u ≡ semi = cc in
    let nothing : ts ≡ [] = cc in
    let found = first_semi file (left ++ 59 ∷ r) from (length left) u one there all (stops_at_mark left r) f (ap (λ x. x.token) same ∙ k) in
    let own : Placed = record { start = at + f.gap; after = at + f.gap + f.len; token = u.token } in
    let moved : shift s own ≡ u = same_placed (shift s own) u (omega (arith, f.start_is, begins)) (omega (arith, f.start_is, f.after_is, begins)) refl in
    let whole : length bytes ≤ at + f.gap + f.len = omega (arith, found.0, found.1.0, length-drop at front, h, ap length e, length-append front (59 ∷ [])) in
    let last : place ≡ u.after = nothing_between file u.after place ts rest nothing in (
      omega (arith, last, f.start_is, f.after_is, found.0, found.1.0, begins, length-drop at front, h),
      record {
        own = own ∷ [];
        end = record { start = own.after; after = own.after; token = token.end };
        tokens = tokens.more (first_alike file bytes left r [] from at u one there here all f).1 nl (tokens.last (end_first bytes own.after (drop_all own.after bytes whole)) tokens.at_end);
        is_end = refl;
        moved = ap (λ x. x ∷ []) moved ∙ ap (λ x. u ∷ x) (sym nothing);
      },
    )
back file bytes front r s from at place _ (b ∷ body) semi one e g begins h all (tokens.more {t = u} {ts = ts} f nl rest) parts none k =
    let left : List ℕ = drop at front in
    let there : drop from file ≡ left ++ 59 ∷ r = goes_on file front r s from at g begins h in
    let here : drop at bytes ≡ left ++ 59 ∷ [] = ap (drop at) e ∙ drop-append-le at front (59 ∷ []) h in
    let same : u ≡ b = cc in
    let others : ts ≡ body ++ semi ∷ [] = cc in
    let other : u.token ≢ token.semi = λ q. All-head (λ x. x.token ≢ token.semi) b body none (ap (λ x. x.token) (sym same) ∙ q) in
    let found = first_more file (left ++ 59 ∷ r) from (length left) u one there all (stops_at_mark left r) f nl other in
    let own : Placed = record { start = at + f.gap; after = at + f.gap + f.len; token = u.token } in
    let moved : shift s own ≡ u = same_placed (shift s own) u (omega (arith, f.start_is, begins)) (omega (arith, f.start_is, f.after_is, begins)) refl in
    let n : ℕ = f.gap + f.len in
    let sum : at + n ≡ own.after = omega arith in
    let within : own.after ≤ length front = omega (arith, found.0, length-drop at front, h) in
    let goes : u.after ≡ s + own.after = omega (arith, f.start_is, f.after_is, begins) in
    let behind : drop n left ≡ drop own.after front = drop-drop n at front ∙ ap (λ j. drop j front) sum in
    let count : length left - n ≡ length (drop own.after front) = omega (arith, length-drop at front, length-drop own.after front, sum) in
    let next : PartsAre (drop own.after front ++ 59 ∷ r) (length (drop own.after front)) =
    subst (PartsAre (drop own.after front ++ 59 ∷ r)) count (subst (λ l. PartsAre l (length left - n)) (drop-append-le n left (59 ∷ r) found.0 ∙ ap (λ l. l ++ 59 ∷ r) behind) found.1) in
    let more = back file bytes front r s u.after own.after place ts body semi one e g goes within next rest others (All-tail (λ x. x.token ≢ token.semi) b body none) k in (
      more.0,
      record {
        own = own ∷ more.1.own;
        end = more.1.end;
        tokens = tokens.more (first_alike file bytes left r [] from at u one there here all f).1 nl more.1.tokens;
        is_end = more.1.is_end;
        moved = ap (λ l. shift s own ∷ l) more.1.moved ∙ ap (λ x. x ∷ ts) moved;
      },
    )

-- Where the parts of a piece go on neither to a `;` nor to another part, no `;` stands.
never : (file text : List ℕ) (from at k place : ℕ) (ts body : List Placed) (semi : Placed) → OneString → drop from file ≡ drop at text → at ≤ k → PartsAre (drop at text) (k - at) → HasNoPart (drop k text) → ¬ (BeginsWithByte 59 (drop k text))
    → TokensUpTo file from ts place → ts ≡ body ++ semi ∷ [] → HasNoSemi body → semi.token ≡ token.semi → ⊥
never file text from at k place ts body semi one e h all stop no_mark tokens.none parts none q = not_empty body semi parts
never file text from at k place _ [] semi one e h all stop no_mark (tokens.more {t = u} {ts = ts} f nl rest) parts none q =
    let same : u ≡ semi = cc in
    let sum : at + (k - at) ≡ k = omega (arith, h) in
    let end_at : drop (k - at) (drop at text) ≡ drop k text = drop-drop (k - at) at text ∙ ap (λ j. drop j text) sum in
    no_mark (subst (BeginsWithByte 59) end_at (first_semi file (drop at text) from (k - at) u one e all (subst HasNoPart (sym end_at) stop) f (ap (λ x. x.token) same ∙ q)).1.1)
never file text from at k place _ (b ∷ body) semi one e h all stop no_mark (tokens.more {t = u} {ts = ts} f nl rest) parts none q =
    let same : u ≡ b = cc in
    let others : ts ≡ body ++ semi ∷ [] = cc in
    let other : u.token ≢ token.semi = λ z. All-head (λ x. x.token ≢ token.semi) b body none (ap (λ x. x.token) (sym same) ∙ z) in
    let sum : at + (k - at) ≡ k = omega (arith, h) in
    let end_at : drop (k - at) (drop at text) ≡ drop k text = drop-drop (k - at) at text ∙ ap (λ j. drop j text) sum in
    let found = first_more file (drop at text) from (k - at) u one e all (subst HasNoPart (sym end_at) stop) f nl other in
    let n : ℕ = f.gap + f.len in
    let after : u.after ≡ from + n = omega (arith, f.start_is, f.after_is) in
    let goes : drop u.after file ≡ drop (at + n) text = ap (λ j. drop j file) after ∙ (sym (drop-drop n from file) ∙ (ap (drop n) e ∙ drop-drop n at text)) in
    let within : at + n ≤ k = omega (arith, found.0, h) in
    let count : k - at - n ≡ k - (at + n) = omega arith in
    let next : PartsAre (drop (at + n) text) (k - (at + n)) = subst (PartsAre (drop (at + n) text)) count (subst (λ l. PartsAre l (k - at - n)) (drop-drop n at text) found.1) in
    never file text u.after (at + n) k place ts body semi one goes within next stop no_mark rest others (All-tail (λ x. x.token ≢ token.semi) b body none) q

closed_or_never : (file text : List ℕ) (start len place : ℕ) (ts body : List Placed) (semi : Placed) → OneString → drop start file ≡ text → PieceIs text len → TokensUpTo file start ts place → ts ≡ body ++ semi ∷ [] → HasNoSemi body → semi.token ≡ token.semi
    → (place ≡ start + len) × Back (take len text) start 0 ts
closed_or_never file text start len place ts body semi one e (pieces.closed {rest = rest} {n = n} parts mark) toks f none k =
    let split = at_mark rest n mark in
    let front : List ℕ = 35 ∷ take n rest in
    let behind : List ℕ = drop (suc n) rest in
    let count : n + 2 ≡ suc (suc n) = omega arith in
    let bytes : take (n + 2) (35 ∷ rest) ≡ front ++ 59 ∷ [] = ap (λ j. take j (35 ∷ rest)) count ∙ ap (λ l. 35 ∷ l) split.1.0 in
    let here : drop start file ≡ front ++ 59 ∷ behind = e ∙ ap (λ l. 35 ∷ l) split.0 in
    let long : n + 1 ≡ length front = (let h = split.1.1 in omega (arith, length-take-le n rest (omega arith))) in
    let inner : PartsAre (take n rest ++ 59 ∷ behind) n = subst (λ l. PartsAre l n) split.0 parts in
    let all : PartsAre (front ++ 59 ∷ behind) (n + 1) = pieces.more (pieces.byte (hash_plain (take n rest ++ 59 ∷ behind))) inner (omega arith) in
    let found = back file (take (n + 2) (35 ∷ rest)) front behind start start 0 place ts body semi one bytes here (omega arith) (omega arith) (subst (PartsAre (front ++ 59 ∷ behind)) long all) toks f none k in
    (omega (arith, found.0, long), found.1)
closed_or_never file text start len place ts body semi one e (pieces.open_ {rest = rest} {n = n} parts mark nothing) toks f none k =
    let bytes : List ℕ = 35 ∷ rest in
    let all : PartsAre bytes (n + 1) = pieces.more (pieces.byte (hash_plain rest)) parts (omega arith) in
    let count : n + 1 ≡ suc n = omega arith in
    let same : n + 1 ≡ n + 1 - 0 = omega arith in
    let stops : HasNoPart (drop (n + 1) bytes) = rw count nothing in
    let no_mark : ¬ (BeginsWithByte 59 (drop (n + 1) bytes)) = rw count mark in
    absurd (never file bytes start 0 (n + 1) place ts body semi one e (omega arith) (subst (PartsAre bytes) same all) stops no_mark toks f none k)

up_to_after : (file : List ℕ) (at gap place : ℕ) (t : Placed) (ts : List Placed) → Passes (drop at file) gap → TokensUpTo file at (t ∷ ts) place → (t.start ≡ at + gap) × TokensUpTo file (at + gap) (t ∷ ts) place
up_to_after file at gap place t ts p (tokens.more f nl rest) =
    let g : First file (at + gap) t = first_from file at gap t p f in
    (omega (arith, f.start_is, passes_once (drop at file) f.gap gap f.passes p), tokens.more g nl rest)

pub of_piece : OneString → FileTokensAreOfPiece
of_piece one file at number _ place _ t body semi (pieces.made {gap = gap} {len = len} p piece) toks none k =
    let ts : List Placed = t ∷ (body ++ semi ∷ []) in
    let up = up_to_after file at gap place t (body ++ semi ∷ []) p toks in
    let found = closed_or_never file (drop (at + gap) file) (at + gap) len place ts (t ∷ body) semi one refl piece up.1 refl none k in
    let b : Back (take len (drop (at + gap) file)) (at + gap) 0 ts = found.1 in
    (up.0, found.0, record { own = b.own; end = b.end; tokens = b.tokens; is_end = b.is_end; moved = b.moved })
