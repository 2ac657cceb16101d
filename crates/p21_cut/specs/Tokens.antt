-- The tokens of a file's pieces and of its tail.
use Rattle.std.specs.Prelude.{◌≡◌, ◌⊎◌, ℕ, List, [], ◌∷◌, ◌++◌}
use Rattle.p21_text.specs.Spelling as token
use Rattle.p21_text.specs.Tokens.{Placed, First, Tokens, TokensUpTo}
use Rattle.p21_tree.specs.Texts.{shift, shifted}
use Rattle.p21_tree.specs.InOrder.{BeginsWithName, HasNoSemi, Joined}
use Rattle.p21_cut.specs.Pieces.{Piece, IsNext, PiecesAre}

-- of each piece its own tokens, with their places in the file
pub data TokensOfEach : List Piece → List (List Placed) → Type 0 where
  none : TokensOfEach [] []
  more : {p : Piece} {ps : List Piece} {ts : List Placed} {tss : List (List Placed)} → Tokens p.bytes 0 ts → TokensOfEach ps tss → TokensOfEach (p ∷ ps) (shifted p.at ts ∷ tss)

-- The tokens of a file from a place on, up to its first Bad, are those of its pieces in turn and of its tail.
abbrev pub PiecesHoldTokens : List ℕ → ℕ → Type 0
PiecesHoldTokens file at = (number end : ℕ) (ps : List Piece) (tss : List (List Placed)) (tail rest : List Placed) → PiecesAre file at number ps end → TokensOfEach ps tss → Tokens file end tail → Tokens file at rest → Joined tss tail rest

-- The tokens of a file, up to its first Bad, are those before a place and, from there on, those of its pieces in turn and of
-- its tail.
abbrev pub PartsHoldTokens : List ℕ → Type 0
PartsHoldTokens file = (at number end : ℕ) (ps : List Piece) (tss : List (List Placed)) (before tail rest : List Placed) → TokensUpTo file 0 before at → PiecesAre file at number ps end → TokensOfEach ps tss → Tokens file end tail → Tokens file at rest → Tokens file 0 (before ++ rest) × Joined tss tail rest

-- Tokens of a text from a place on, none of them End or Bad, and the one after them.
pub record TokensAndNext (text : List ℕ) (at : ℕ) (before : List Placed) (t : Placed) : Type 0 where
  pub place : ℕ
  pub tokens : TokensUpTo text at before place
  pub next : First text place t

-- What first tokens of a piece, and the one after them, are in the file, where cutting goes on from `at` to `next`.
-- Before the semicolon of the piece they are those of the file. After it comes the End of the piece, while the file
-- goes on after the piece.
pub data InFile (file : List ℕ) (at next : ℕ) (p : Piece) (before : List Placed) (t : Placed) : Type 0 where
  -- Before the piece's semicolon they are tokens of the file. The first is a name, unless no token begins there.
  inside : HasNoSemi before → BeginsWithName (shifted p.at (before ++ t ∷ [])) ⊎ (t.token ≡ token.bad) → TokensAndNext file at (shifted p.at before) (shift p.at t) → InFile file at next p before t
  -- Behind the semicolon stands the piece's End, and the file goes on after the piece.
  whole : (body : List Placed) (semi : Placed) → before ≡ body ++ semi ∷ [] → HasNoSemi body → semi.token ≡ token.semi → t.token ≡ token.end → TokensUpTo file at (shifted p.at before) next → InFile file at next p before t

-- first tokens of a piece are tokens of the file
abbrev pub PieceTokensAreOfFile : Type 0
PieceTokensAreOfFile = (file : List ℕ) (at number next : ℕ) (p : Piece) (before : List Placed) (t : Placed) → IsNext file at number p next → TokensAndNext p.bytes 0 before t → InFile file at next p before t

-- first tokens of a tail are tokens of the file from before the separators on; the first is no name
abbrev pub TailTokensAreOfFile : Type 0
TailTokensAreOfFile = (file : List ℕ) (at number end : ℕ) (before : List Placed) (t : Placed) → PiecesAre file at number [] end → TokensAndNext file end before t → TokensAndNext file at before t × ¬ (BeginsWithName (before ++ t ∷ []))

-- Tokens of the file are those of a piece, without its End.
pub record AreOfPiece (p : Piece) (ts : List Placed) : Type 0 where
  pub own : List Placed
  pub end : Placed
  pub tokens : Tokens p.bytes 0 (own ++ end ∷ [])
  pub is_end : end.token ≡ token.end
  pub moved : shifted p.at own ≡ ts

-- where a piece comes next, the tokens of the file up to the next semicolon begin at its place, are those of the piece, and end with it
abbrev pub FileTokensAreOfPiece : Type 0
FileTokensAreOfPiece = (file : List ℕ) (at number next place : ℕ) (p : Piece) (t : Placed) (body : List Placed) (semi : Placed) → IsNext file at number p next → TokensUpTo file at (t ∷ (body ++ semi ∷ [])) place → HasNoSemi (t ∷ body) → semi.token ≡ token.semi
    → (t.start ≡ p.at) × (place ≡ next) × AreOfPiece p (t ∷ (body ++ semi ∷ []))

-- where a piece comes next, the next token is a name, or none begins there
abbrev pub PieceBeginsWithName : Type 0
PieceBeginsWithName = (file : List ℕ) (at number next : ℕ) (p : Piece) (t : Placed) → IsNext file at number p next → First file at t → ((n : ℕ) × (t.token ≡ token.name n)) ⊎ (t.token ≡ token.bad)

-- where none comes, the tokens of the file are those of the tail, and the first is no name
abbrev pub FileTokensAreOfTail : Type 0
FileTokensAreOfTail = (file : List ℕ) (at number end : ℕ) (ts : List Placed) → PiecesAre file at number [] end → Tokens file at ts → Tokens file end ts × ¬ (BeginsWithName ts)
