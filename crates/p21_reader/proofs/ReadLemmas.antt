-- One part of a file further.
use Rattle.std.proofs.Common.{◌≡◌, ◌⊎◌, ℕ, ◌+◌, List, [], ◌∷◌, ◌++◌, Option, Some, None, map, refl, sym, ap, subst, ◌∙◌, append_assoc, append-nil}
use Rattle.p21_text.specs.Spelling as token
use Rattle.p21_text.specs.Tokens.{Placed, First, Tokens, TokensUpTo, IsLast}
use Rattle.p21_text.specs.Tokens as tokens
use Rattle.p21_express.specs.Schema.{Schema}
use Rattle.p21_tree.specs.declared.faults.Fault.{Fault}
use Rattle.p21_tree.specs.declared.pieces.Piece.{Piece}
use Rattle.p21_tree.specs.Sentence.{Instance, Opening, IsInstance, IsInstances, IsTail, deepest}
use Rattle.p21_tree.specs.Sentence as sentence
use Rattle.p21_tree.specs.Fault.{IsFault, files, pieces, tails}
use Rattle.p21_tree.specs.Texts.{shift, shifted, IsPieceText, IsFileText, HasPieceFault, HasFault, HasTail, BeginsPreface}
use Rattle.p21_tree.specs.InOrder.{BeginsWithName, HasNoSemi, PieceFaultIsOfFile, TailFaultIsOfFile, PieceIsInstance, NoFaultBehindSemi}
use Rattle.p21_cut.specs.Pieces.{IsNext, PiecesAre}
use Rattle.p21_cut.specs.Pieces as cut
use Rattle.p21_cut.specs.Cutter.{plain_piece}
use Rattle.p21_cut.specs.Tokens.{TokensAndNext, InFile, PieceTokensAreOfFile, TailTokensAreOfFile}
use Rattle.p21_cut.specs.Tokens as piece
use Rattle.p21_check.specs.Header.{IsHeaderFault}
use Rattle.p21_reader.specs.GrammarOutcome.{FileBeginsWith, FileStopsBehind, ReadsParts, IsOutcomeOf}
use Rattle.p21_reader.specs.GrammarOutcome as parts
use Rattle.p21_reader.specs.Laws.{PiecesGiveFile}
use Rattle.p21_reader.specs.InstanceFault.{IsInstanceFault, HaveNoFault}
use Rattle.p21_reader.specs.LocalFault.{IsLocalFaultOfFile, HasNoLocalFault}
use Rattle.p21_reader.specs.LocalFault as fault
use Rattle.p21_reader.specs.Steps.{EndsBehind, IsReadUpTo}
use Rattle.p21_reader.proofs.PlaceLemmas.{Place, place_of}
use Rattle.p21_reader.proofs.PlaceLemmas as places
use Rattle.p21_reader.proofs.TokenLemmas.{up_to_on, tokens_on, AllTokens, all_tokens, none_last, shifted_snoc, shifted_no_semi}

-- the laws of pieces and parts that a reading stands on
pub record PartLaws : Type 0 where
  pub piece_tokens : PieceTokensAreOfFile
  pub tail_tokens : TailTokensAreOfFile
  pub piece_fault : PieceFaultIsOfFile
  pub tail_fault : TailFaultIsOfFile
  pub piece_is_instance : PieceIsInstance
  pub none_behind : NoFaultBehindSemi

pub part_laws : PieceTokensAreOfFile → TailTokensAreOfFile → PieceFaultIsOfFile → TailFaultIsOfFile → PieceIsInstance → NoFaultBehindSemi → PartLaws
part_laws a b c d e f = record { piece_tokens = a; tail_tokens = b; piece_fault = c; tail_fault = d; piece_is_instance = e; none_behind = f }

pub instances_more : (body ts : List Placed) (is : List Instance) (i : Instance) → IsInstances deepest body is → IsInstance deepest ts i → IsInstances deepest (body ++ ts) (is ++ i ∷ [])
instances_more body ts is i sentence.none h = subst (λ x. IsInstances deepest x (i ∷ [])) (append-nil ts) (sentence.more ts h sentence.none)
instances_more body ts is i (sentence.more us {rest = rest} {i = j} {is = others} g hs) h =
    subst (λ x. IsInstances deepest x (j ∷ (others ++ i ∷ []))) (sym (append_assoc us rest ts)) (sentence.more us g (instances_more rest ts others i hs h))

begins_more : (file : List ℕ) (o : Opening) (is : List Instance) (place next : ℕ) (ts : List Placed) (i : Instance) → FileBeginsWith file o is place → TokensUpTo file place ts next → IsInstance deepest ts i → FileBeginsWith file o (is ++ i ∷ []) next
begins_more file o is place next ts i b toks h = record {
  opening = b.opening;
  body = b.body ++ ts;
  tokens = subst (λ x. TokensUpTo file 0 x next) (append_assoc b.opening b.body ts) (up_to_on file 0 place next (b.opening ++ b.body) ts b.tokens toks);
  is_opening = b.is_opening;
  are_instances = instances_more b.body ts is i b.are_instances h;
}

pub begins_opening : (file : List ℕ) (o : Opening) → BeginsPreface file o → FileBeginsWith file o [] o.data_at
begins_opening file o h = record {
  opening = h.0;
  body = [];
  tokens = subst (λ x. TokensUpTo file 0 x o.data_at) (sym (append-nil h.0)) h.1;
  is_opening = h.2;
  are_instances = sentence.none;
}

-- a whole piece

piece_whole : PartLaws → (file : List ℕ) (place number next : ℕ) (p : Piece) (i : Instance) → IsNext file place number (plain_piece p) next → IsPieceText p i → (ts : List Placed) × TokensUpTo file place ts next × IsInstance deepest ts i
piece_whole laws file place number next p i n h =
    let all : AllTokens p.bytes.now 0 h.0 = all_tokens p.bytes.now 0 h.0 h.1 in
    let front : List Placed = shifted p.at all.before in
    let end : Placed = shift p.at all.last in
    let whole = laws.piece_is_instance front end i (subst (λ x. sentence.IsPiece deepest x i) (ap (shifted p.at) all.parts ∙ shifted_snoc p.at all.before all.last) h.2) in
    (front, by_place all.before all.last whole.1 (laws.piece_tokens file place number next (plain_piece p) all.before all.last n all.up_to), whole.0) where
      by_place : (before : List Placed) (last : Placed) → ¬ (HasNoSemi (shifted p.at before)) → InFile file place next (plain_piece p) before last → TokensUpTo file place (shifted p.at before) next
      by_place before last some (piece.inside none begins up) = absurd (some (shifted_no_semi p.at before none))
      by_place before last some (piece.whole body semi e none k l toks) = toks

-- with the instance of a piece more
pub begins_on : PartLaws → (file : List ℕ) (o : Opening) (is : List Instance) (place number next : ℕ) (p : Piece) (i : Instance) → FileBeginsWith file o is place → IsNext file place number (plain_piece p) next → IsPieceText p i → FileBeginsWith file o (is ++ i ∷ []) next
begins_on laws file o is place number next p i b n h = let w = piece_whole laws file place number next p i n h in begins_more file o is place next w.0 i b w.1 w.2

-- a fault in a piece

pub piece_stops : PartLaws → (file : List ℕ) (o : Opening) (is : List Instance) (place number next : ℕ) (p : Piece) (f : Fault) → FileBeginsWith file o is place → IsNext file place number (plain_piece p) next → HasPieceFault p f → FileStopsBehind file o is f
piece_stops laws file o is place number next p f b n h = by_place (laws.piece_tokens file place number next (plain_piece p) h.before h.token n (record { place = h.place; tokens = h.tokens; next = h.next })) where
  front : List Placed
  front = shifted p.at h.before

  by_place : InFile file place next (plain_piece p) h.before h.token → FileStopsBehind file o is f
  by_place (piece.inside none begins up) = record {
    opening = b.opening;
    body = b.body;
    front = front;
    place = up.place;
    token = shift p.at h.token;
    kind = h.kind;
    tokens = subst (λ x. TokensUpTo file 0 x up.place) (append_assoc b.opening b.body front) (up_to_on file 0 place up.place (b.opening ++ b.body) front b.tokens up.tokens);
    next = up.next;
    is_opening = b.is_opening;
    are_instances = b.are_instances;
    stops = laws.piece_fault b.opening b.body front o is (shift p.at h.token) h.kind f.at b.is_opening b.are_instances (shifted_no_semi p.at h.before none)
        (subst (λ x. BeginsWithName x ⊎ (h.token.token ≡ token.bad)) (shifted_snoc p.at h.before h.token) begins) h.is_fault;
    kind_is = h.kind_is;
  }
  by_place (piece.whole body semi e none k l toks) =
      absurd (laws.none_behind (shifted p.at body) (shift p.at semi) (shift p.at h.token) h.kind f.at (shifted_no_semi p.at body none) k l
      (subst (λ x. IsFault pieces x (shift p.at h.token) h.kind f.at) (ap (shifted p.at) e ∙ shifted_snoc p.at body semi) h.is_fault))

-- the tail

tail_tokens : PartLaws → (file : List ℕ) (place number end : ℕ) (ts : List Placed) → PiecesAre file place number [] end → Tokens file end ts → Tokens file place ts
tail_tokens laws file place number end ts n toks =
    let all : AllTokens file end ts = all_tokens file end ts toks in
    let up = (laws.tail_tokens file place number end all.before all.last n all.up_to).0 in
    subst (Tokens file place) (sym all.parts) (tokens_on file place up.place all.before (all.last ∷ []) up.tokens (tokens.last up.next all.is_last))

pub tail_whole : PartLaws → (file : List ℕ) (o : Opening) (is : List Instance) (place number end : ℕ) → FileBeginsWith file o is place → PiecesAre file place number [] end → HasTail file end → IsFileText file o is
tail_whole laws file o is place number end b n h =
    let tail : List Placed = h.0 in (
      b.opening ++ (b.body ++ tail),
      subst (Tokens file 0) (append_assoc b.opening b.body tail) (tokens_on file 0 place (b.opening ++ b.body) tail b.tokens (tail_tokens laws file place number end tail n h.1)),
      record { opening = b.opening; body = b.body; tail = tail; parts = refl; is_opening = b.is_opening; are_instances = b.are_instances; is_tail = h.2 },
    )

pub tail_stops : PartLaws → (file : List ℕ) (o : Opening) (is : List Instance) (place number end : ℕ) (f : Fault) → FileBeginsWith file o is place → PiecesAre file place number [] end → HasFault tails file end f → FileStopsBehind file o is f
tail_stops laws file o is place number end f b n h =
    let moved = laws.tail_tokens file place number end h.before h.token n (record { place = h.place; tokens = h.tokens; next = h.next }) in
    let up = moved.0 in
    record {
      opening = b.opening;
      body = b.body;
      front = h.before;
      place = up.place;
      token = h.token;
      kind = h.kind;
      tokens = subst (λ x. TokensUpTo file 0 x up.place) (append_assoc b.opening b.body h.before) (up_to_on file 0 place up.place (b.opening ++ b.body) h.before b.tokens up.tokens);
      next = up.next;
      is_opening = b.is_opening;
      are_instances = b.are_instances;
      stops = laws.tail_fault b.opening b.body h.before o is h.token h.kind f.at b.is_opening b.are_instances (none_last file end h.place h.before h.tokens) moved.1 h.is_fault;
      kind_is = h.kind_is;
    }

-- all parts

stopped : (file : List ℕ) (o : Opening) (is : List Instance) (f : Fault) → FileStopsBehind file o is f → HasFault files file 0 f × FileStopsBehind file o is f
stopped file o is f s = (record { before = s.opening ++ (s.body ++ s.front); place = s.place; token = s.token; kind = s.kind; tokens = s.tokens; next = s.next; is_fault = s.stops.is_fault; kind_is = s.kind_is }, s)

parts_from : PartLaws → (file : List ℕ) (o : Opening) (end : ℕ) (earlier is : List Instance) (place number : ℕ) (ps : List Piece) (found : Option Fault) → FileBeginsWith file o earlier place → PiecesAre file place number (map plain_piece ps) end → ReadsParts file end ps is found → IsOutcomeOf file o (earlier ++ is) found
parts_from laws file o end earlier is place number ps found b n (parts.whole t) =
    subst (λ x. IsFileText file o x) (sym (append-nil earlier)) (tail_whole laws file o earlier place number end b n t)
parts_from laws file o end earlier is place number ps found b n (parts.in_tail {f} h) =
    subst (λ x. IsOutcomeOf file o x (Some f)) (sym (append-nil earlier)) (stopped file o earlier f (tail_stops laws file o earlier place number end f b n h))
parts_from laws file o end earlier is place number (p ∷ ps) found b (cut.piece {next = after} n others) (parts.in_piece {f = f} h) =
    subst (λ x. IsOutcomeOf file o x (Some f)) (sym (append-nil earlier)) (stopped file o earlier f (piece_stops laws file o earlier place number after p f b n h))
parts_from laws file o end earlier is place number (p ∷ ps) found b (cut.piece {next = after} n others) (parts.next {i = i} {is = later} h rest) =
    let more : FileBeginsWith file o (earlier ++ i ∷ []) after = begins_on laws file o earlier place number after p i b n h in
    subst (λ x. IsOutcomeOf file o x found) (append_assoc earlier (i ∷ []) later) (parts_from laws file o end (earlier ++ i ∷ []) later after (number + 1) ps found more others rest)

pub pieces_give_file : PartLaws → (file : List ℕ) → PiecesGiveFile file
pieces_give_file laws file o ps end is found h n r = parts_from laws file o end [] is o.data_at 0 ps found (begins_opening file o h) n r

-- one instance more

faultless_more : (s : Schema) (is : List Instance) (i : Instance) → HaveNoFault s is → IsInstanceFault s is i None → HaveNoFault s (is ++ i ∷ [])
faultless_more s is i h own = λ earlier later j e. by_place earlier later j (place_of is earlier later i j e) where
  by_place : (earlier later : List Instance) (j : Instance) → Place is earlier later i j → IsInstanceFault s earlier j None
  by_place earlier later j (places.last p q) = subst (λ x. IsInstanceFault s x j None) p (subst (λ x. IsInstanceFault s is x None) q own)
  by_place earlier later j (places.before m p) = h earlier m j p

pub none_faultless : (s : Schema) → HaveNoFault s []
none_faultless s = λ earlier later i e. nothing earlier later i e where
  nothing : (earlier later : List Instance) (i : Instance) → [] ≡ earlier ++ i ∷ later → IsInstanceFault s earlier i None
  nothing [] later i e = absurd (cc)
  nothing (x ∷ earlier) later i e = absurd (cc)

-- what a reading knows after one part more

pub read_on : PartLaws → (s : Schema) (file : List ℕ) (o : Opening) (is : List Instance) (place number next : ℕ) (p : Piece) (i : Instance) → IsReadUpTo s file o is place → IsNext file place number (plain_piece p) next → IsPieceText p i → IsInstanceFault s is i None → IsReadUpTo s file o (is ++ i ∷ []) next
read_on laws s file o is place number next p i r n h own =
    record { begins = begins_on laws file o is place number next p i r.begins n h; faultless = faultless_more s is i r.faultless own }

pub file_read : PartLaws → (s : Schema) (file : List ℕ) (o : Opening) (is : List Instance) (end : ℕ) → EndsBehind s file o is end → IsHeaderFault s o None → HasTail file end → HasNoLocalFault s file is
file_read laws s file o is end h g t = record { opening = o; is_file = tail_whole laws file o is h.0 h.1 end h.2.begins h.3 t; header = g; faultless = h.2.faultless }

pub tail_fault : PartLaws → (s : Schema) (file : List ℕ) (o : Opening) (is : List Instance) (end : ℕ) (f : Fault) → EndsBehind s file o is end → IsHeaderFault s o None → HasFault tails file end f → IsLocalFaultOfFile s file f
tail_fault laws s file o is end f h g t = fault.behind_instances (tail_stops laws file o is h.0 h.1 end f h.2.begins h.3 t) g h.2.faultless
