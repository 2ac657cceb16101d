-- The pieces of a file that is a sentence are its instances.
use Rattle.std.proofs.Common.{◌≡◌, ◌⊎◌, inl, inr, ℕ, ◌+◌, List, [], ◌∷◌, ◌++◌, map, Some, None, refl, sym, ap, subst, ◌∙◌, append_assoc}
use Rattle.std.specs.List.{AllZip}
use Rattle.p21_text.specs.Spelling.{Symbol}
use Rattle.p21_text.specs.Spelling as token
use Rattle.p21_text.specs.Tokens.{Placed, First, Tokens, TokensUpTo}
use Rattle.p21_text.specs.Tokens as tokens
use Rattle.p21_express.specs.Schema.{Schema}
use Rattle.p21_tree.specs.declared.faults.Fault.{Fault}
use Rattle.p21_tree.specs.declared.faults.FaultKind.{FaultKind}
use Rattle.p21_tree.specs.declared.pieces.Piece.{Piece}
use Rattle.p21_tree.specs.Sentence.{Instance, Opening, IsInstance, IsInstances, IsPreface, IsTail, deepest, endsec_word}
use Rattle.p21_tree.specs.Sentence as sentence
use Rattle.p21_tree.specs.Texts.{shift, shifted, BeginsPreface, HasTail}
use Rattle.p21_tree.specs.InOrder.{BeginsWithName, HasNoSemi, InstanceHasOneSemi}
use Rattle.p21_cut.specs.Pieces as cut
use Rattle.p21_cut.specs.Pieces.{IsNext, PiecesAre}
use Rattle.p21_cut.specs.Cutter.{plain_piece}
use Rattle.p21_cut.specs.Laws.{HasOneCuttingAtMost}
use Rattle.p21_cut.specs.Tokens.{AreOfPiece, FileTokensAreOfPiece, PieceBeginsWithName, FileTokensAreOfTail}
use Rattle.p21_check.specs.Header.{IsHeaderFault}
use Rattle.p21_check.specs.Laws.{HasOneHeaderFault}
use Rattle.p21_reader.specs.LocalFault.{IsOpeningFault}
use Rattle.p21_reader.specs.LocalFault as fault
use Rattle.p21_reader.specs.PiecesOf.{ArePiecesOf}
use Rattle.p21_reader.specs.PiecesOf as own
use Rattle.p21_reader.specs.Laws.{HasOneListOfPiecesAtMost, IsPieceOf, PiecesAreInstances, PiecesOfFileAreInstances}
use Rattle.p21_reader.proofs.TokenLemmas.{shifted_snoc}
use Rattle.p21_reader.proofs.ReadLemmas.{begins_opening}
use Rattle.p21_reader.proofs.FrontLemmas.{TreeLaws, all_of_file, beginnings, no_preface, same_place, whole_split, word_first}

-- the laws of tokens that this stands on
pub record NextLaws : Type 0 where
  pub of_piece : FileTokensAreOfPiece
  pub first : PieceBeginsWithName
  pub of_tail : FileTokensAreOfTail
  pub one_semi : InstanceHasOneSemi

-- an instance stands where its first token does
name_place : (limit : ℕ) (ts others : List Placed) (i : Instance) (t : Placed) → IsInstance limit ts i → ts ≡ t ∷ others → i.at ≡ t.start
name_place limit _ others i t (sentence.simple n e us s hn he h hs) f = let same : n ≡ t = cc in ap (λ x. x.start) same
name_place limit _ others i t (sentence.complex {ts = us} n e o c s hn he ho h hc hs) f = let same : n ≡ t = cc in ap (λ x. x.start) same

name_on : (a b : List Placed) → BeginsWithName a → BeginsWithName (a ++ b)
name_on [] b h = absurd h
name_on (t ∷ a) b h = h

-- something stands at the front of a tail, whatever stands before it
some_first : (rest tail : List Placed) → IsTail tail → (u : Placed) × (b : List Placed) × (rest ++ tail ≡ u ∷ b)
some_first [] tail t = let w = word_first tail t in (w.0, w.1, w.2)
some_first (u ∷ rest) tail t = (u, rest ++ tail, refl)

tokens_first : (text : List ℕ) (at : ℕ) (t : Placed) (ts us : List Placed) → Tokens text at us → us ≡ t ∷ ts → First text at t
tokens_first text at t ts _ (tokens.last {t = u} f l) e = let same : u ≡ t = cc in subst (First text at) same f
tokens_first text at t ts _ (tokens.more {t = u} {ts = vs} f l rest) e = let same : u ≡ t = cc in subst (First text at) same f

-- no piece comes where the tail does
no_piece : NextLaws → (file : List ℕ) (place number next : ℕ) (p : cut.Piece) (tail : List Placed) → IsNext file place number p next → IsTail tail → ¬ (Tokens file place tail)
no_piece laws file place number next p tail n t toks =
    let w = word_first tail t in
    apart w.0.token w.3 (laws.first file place number next p w.0 n (tokens_first file place w.0 w.1 tail toks w.2))
  where
    apart : (s : Symbol) → s ≡ token.keyword endsec_word → ¬ (((n : ℕ) × (s ≡ token.name n)) ⊎ (s ≡ token.bad))
    apart s e (inl n) = let f = n.1 in cc
    apart s e (inr b) = cc

-- the tokens of a file up to the end of an instance, and those after it
parted : (file : List ℕ) (place : ℕ) (us rest tail : List Placed) → IsTail tail → Tokens file place ((us ++ rest) ++ tail) → (q : ℕ) × TokensUpTo file place us q × Tokens file q (rest ++ tail)
parted file place us rest tail t toks =
    let f = some_first rest tail t in
    let s = whole_split file place us f.0 f.1 ((us ++ rest) ++ tail) toks (append_assoc us rest tail ∙ ap (λ l. us ++ l) f.2) in
    (s.0, s.1, subst (Tokens file s.0) (sym f.2) s.2)

-- where an instance stands next, so does a piece that is this instance, and cutting goes on after it
is_instance : NextLaws → (file : List ℕ) (place number next q : ℕ) (p : Piece) (us : List Placed) (i : Instance) → IsNext file place number (plain_piece p) next → IsInstance deepest us i → TokensUpTo file place us q → (q ≡ next) × IsPieceOf p i
is_instance laws file place number next q p us i n x up =
    let s = laws.one_semi us i x in
    by_body s.0 s.1 s.2 s.3 s.4 s.5
  where
    by_body : (body : List Placed) (semi : Placed) → us ≡ body ++ semi ∷ [] → BeginsWithName body → HasNoSemi body → semi.token ≡ token.semi → (q ≡ next) × IsPieceOf p i
    by_body [] semi e name none k = absurd name
    by_body (t ∷ body) semi e name none k =
        let ts : List Placed = t ∷ (body ++ semi ∷ []) in
        let found = laws.of_piece file place number next q (plain_piece p) t body semi n (subst (λ l. TokensUpTo file place l q) e up) none k in
        let a : AreOfPiece (plain_piece p) ts = found.2 in
        let parts : shifted p.at (a.own ++ a.end ∷ []) ≡ ts ++ shift p.at a.end ∷ [] = shifted_snoc p.at a.own a.end ∙ ap (λ l. l ++ shift p.at a.end ∷ []) a.moved in
        let whole : IsInstance deepest ts i = subst (λ l. IsInstance deepest l i) e x in (
          found.1,
          ((a.own ++ a.end ∷ [], a.tokens, record { body = ts; end = shift p.at a.end; parts = parts; is_instance = whole; is_end = a.is_end }), sym (name_place deepest ts (body ++ semi ∷ []) i t whole refl ∙ found.0)),
        )

pieces_from : NextLaws → (file : List ℕ) (place number end : ℕ) (body tail : List Placed) (is : List Instance) (ps : List Piece) → IsTail tail → Tokens file place (body ++ tail) → IsInstances deepest body is → PiecesAre file place number (map plain_piece ps) end → AllZip IsPieceOf ps is × HasTail file end
pieces_from laws file place number end _ tail _ [] t toks sentence.none n = (tt, (tail, (laws.of_tail file place number end tail n toks).0, t))
pieces_from laws file place number end _ tail _ (p ∷ ps) t toks sentence.none (cut.piece {next = after} n others) = absurd (no_piece laws file place number after (plain_piece p) tail n t toks)
pieces_from laws file place number end _ tail _ [] t toks (sentence.more us {rest} {i} {is} x xs) n =
    let s = laws.one_semi us i x in
    let named : BeginsWithName (us ++ (rest ++ tail)) = name_on us (rest ++ tail) (subst BeginsWithName (sym s.2) (name_on s.0 (s.1 ∷ []) s.3)) in
    absurd ((laws.of_tail file place number end ((us ++ rest) ++ tail) n toks).1 (subst BeginsWithName (sym (append_assoc us rest tail)) named))
pieces_from laws file place number end _ tail _ (p ∷ ps) t toks (sentence.more us {rest} {i} {is} x xs) (cut.piece {next = after} n others) =
    let s = parted file place us rest tail t toks in
    let here = is_instance laws file place number after s.0 p us i n x s.1 in
    let more = pieces_from laws file after (number + 1) end rest tail is ps t (subst (λ j. Tokens file j (rest ++ tail)) here.0 s.2) xs others in
    ((here.1, more.0), more.1)

last_after : (text : List ℕ) (at q : ℕ) (ts a : List Placed) (t : Placed) → TokensUpTo text at ts q → ts ≡ a ++ t ∷ [] → q ≡ t.after
last_after text at q ts [] t tokens.none e = absurd (cc)
last_after text at q ts (b ∷ a) t tokens.none e = absurd (cc)
last_after text at q _ [] t (tokens.more {t = u} {ts} f nl rest) e =
    let same : u ≡ t = cc in
    let nothing : ts ≡ [] = cc in
    sym (same_place text u.after q ts rest nothing) ∙ ap (λ x. x.after) same
last_after text at q _ (b ∷ a) t (tokens.more {t = u} {ts} f nl rest) e = let others : ts ≡ a ++ t ∷ [] = cc in last_after text u.after q ts a t rest others

-- where a preface ends
preface_ends : (text : List ℕ) (at q : ℕ) (ts : List Placed) (o : Opening) → TokensUpTo text at ts q → IsPreface deepest ts o → q ≡ o.data_at
preface_ends text at q _ _ up (sentence.made iso s1 header s2 ts endsec s3 data_ s4 a b c d e f g h k) =
    last_after text at q (iso ∷ s1 ∷ header ∷ s2 ∷ (ts ++ endsec ∷ s3 ∷ data_ ∷ s4 ∷ [])) (iso ∷ s1 ∷ header ∷ s2 ∷ (ts ++ endsec ∷ s3 ∷ data_ ∷ [])) s4 up
    (ap (λ l. iso ∷ s1 ∷ header ∷ s2 ∷ l) (sym (append_assoc ts (endsec ∷ s3 ∷ data_ ∷ []) (s4 ∷ []))))

pub are_instances : NextLaws → (file : List ℕ) → PiecesAreInstances file
are_instances laws file o is ps end whole n =
    let f = whole.2 in
    let moved : Tokens file 0 (f.opening ++ (f.body ++ f.tail)) = subst (Tokens file 0) f.parts whole.1 in
    let first = some_first f.body f.tail f.is_tail in
    let s = whole_split file 0 f.opening first.0 first.1 (f.opening ++ (f.body ++ f.tail)) moved (ap (λ l. f.opening ++ l) first.2) in
    let place : s.0 ≡ o.data_at = preface_ends file 0 s.0 f.opening o s.1 f.is_opening in
    pieces_from laws file o.data_at 0 end f.body f.tail is ps f.is_tail (subst (Tokens file o.data_at) (sym first.2) (subst (λ j. Tokens file j (first.0 ∷ first.1)) place s.2)) f.are_instances n

pub of_file_are_instances : NextLaws → TreeLaws → (s : Schema) (file : List ℕ) → PiecesOfFileAreInstances s file
of_file_are_instances laws trees s file o is ps whole none h = by_pieces (map plain_piece ps) refl h where
  by_pieces : (qs : List cut.Piece) → map plain_piece ps ≡ qs → ArePiecesOf s file qs → AllZip IsPieceOf ps is
  by_pieces _ e (own.none {f} bad) = absurd (none f bad)
  by_pieces _ e (own.behind_preface {o = u} {ps = qs} {end} begins header n) =
      let all = all_of_file trees.firsts file o is whole in
      let same : u ≡ o = (beginnings trees file u o [] is u.data_at all.end (begins_opening file u begins) all.begins).0 in
      (are_instances laws file o is ps end whole (subst (λ x. PiecesAre file x.data_at 0 (map plain_piece ps) end) same (subst (λ l. PiecesAre file u.data_at 0 l end) (sym e) n))).0

-- ---- one list of pieces

module _ (trees : TreeLaws) (headers : (s : Schema) → (o : Opening) → HasOneHeaderFault s o) (cuttings : (file : List ℕ) → (at : ℕ) → HasOneCuttingAtMost file at) where
  one_preface : (file : List ℕ) (o u : Opening) → BeginsPreface file o → BeginsPreface file u → o ≡ u
  one_preface file o u b d = (beginnings trees file o u [] [] o.data_at u.data_at (begins_opening file o b) (begins_opening file u d)).0

  no_header : (s : Schema) (o : Opening) (kind : FaultKind) → IsHeaderFault s o (Some kind) → IsHeaderFault s o None → ⊥
  no_header s o kind h none = (let e = headers s o (Some kind) None h none in cc)

  -- a file with a fault before its instances begins with no preface whose header has none
  none_before : (s : Schema) (file : List ℕ) (f : Fault) (o : Opening) → IsOpeningFault s file f → BeginsPreface file o → IsHeaderFault s o None → ⊥
  none_before s file f o (fault.in_preface h) b header = no_preface trees.firsts file f o [] o.data_at h (begins_opening file o b)
  none_before s file f o (fault.in_header {o = u} {kind} d h) b header = no_header s o kind (subst (λ x. IsHeaderFault s x (Some kind)) (one_preface file u o d b) h) header

  pub pieces_of_file_once : (s : Schema) (file : List ℕ) → HasOneListOfPiecesAtMost s file
  pieces_of_file_once s file _ _ (own.none f) (own.none g) = refl
  pieces_of_file_once s file _ qs (own.none {f} h) (own.behind_preface {o} b header n) = absurd (none_before s file f o h b header)
  pieces_of_file_once s file ps _ (own.behind_preface {o} b header n) (own.none {f} h) = absurd (none_before s file f o h b header)
  pieces_of_file_once s file ps qs (own.behind_preface {o} {end} b header n) (own.behind_preface {o = u} {end = other} d also m) =
      let moved : PiecesAre file o.data_at 0 qs other = subst (λ x. PiecesAre file x.data_at 0 qs other) (one_preface file u o d b) m in
      (cuttings file o.data_at 0 ps qs end other n moved).0
