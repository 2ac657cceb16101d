-- What the tokens of a text are: a file, a preface, a piece, a tail, or a fault.
use Rattle.std.specs.Prelude.{◌≡◌, ℕ, ◌+◌, List, ◌∷◌, ◌++◌, map}
use Rattle.p21_text.specs.Tokens.{Placed, First, Tokens, TokensUpTo}
use Rattle.p21_tree.specs.declared.faults.Fault.{Fault}
use Rattle.p21_tree.specs.declared.faults.FaultKind.{FaultKind}
use Rattle.p21_tree.specs.declared.faults.FaultKind.TheVariants as variants
use Rattle.p21_tree.specs.declared.faults.TreeError.{TreeError}
use Rattle.p21_tree.specs.declared.faults.TreeError.TheVariants as error
use Rattle.p21_tree.specs.declared.pieces.Piece.{Piece}
use Rattle.p21_tree.specs.Sentence.{Instance, Opening, IsFile, IsPreface, IsPiece, IsTail, deepest}
use Rattle.p21_tree.specs.Fault.{Kind, bad_token, unexpected, truncated, too_deep, IsFault, files, prefaces, pieces}

-- the kind of a grammar fault, as the code names it
abbrev pub fault_kind : Kind → FaultKind
fault_kind bad_token = variants.BadToken
fault_kind unexpected = variants.Unexpected
fault_kind truncated = variants.Truncated
fault_kind too_deep = variants.TooDeep

-- a fact for a grammar fault
abbrev pub OnGrammar : TreeError → (Fault → Type 0) → Type 0
OnGrammar (error.Grammar fault) P = P fault
OnGrammar error.Memory P = Unit {0}

-- the tokens of the text are a file
abbrev pub IsFileText : List ℕ → Opening → List Instance → Type 0
IsFileText text o is = (ts : List Placed) × Tokens text 0 ts × IsFile deepest ts (record { opening = o; instances = is })

-- the first tokens of the text are a preface
abbrev pub BeginsPreface : List ℕ → Opening → Type 0
BeginsPreface text o = (ts : List Placed) × TokensUpTo text 0 ts o.data_at × IsPreface deepest ts o

-- the tokens of the text from a place on are a tail
abbrev pub HasTail : List ℕ → ℕ → Type 0
HasTail text at = (ts : List Placed) × Tokens text at ts × IsTail ts

-- a token of a part of a file, where the part begins at a place
abbrev pub shift : ℕ → Placed → Placed
shift at t = record { start = at + t.start; after = at + t.after; token = t.token }

abbrev pub shifted : ℕ → List Placed → List Placed
shifted at ts = map (shift at) ts

-- the tokens of the piece are an instance
abbrev pub IsPieceText : Piece → Instance → Type 0
IsPieceText piece i = (ts : List Placed) × Tokens piece.bytes.now 0 ts × IsPiece deepest (shifted piece.at ts) i

-- The fault of a text from a place on: the token that is the fault, and the tokens before it.
pub record HasFault (L : ℕ → List Placed → Type 0) (text : List ℕ) (at : ℕ) (fault : Fault) : Type 0 where
  pub before : List Placed
  pub place : ℕ
  pub token : Placed
  pub kind : Kind
  pub tokens : TokensUpTo text at before place
  pub next : First text place token
  pub is_fault : IsFault L before token kind fault.at
  pub kind_is : fault.kind ≡ fault_kind kind

-- The fault of a piece, with places in the file.
pub record HasPieceFault (piece : Piece) (fault : Fault) : Type 0 where
  pub before : List Placed
  pub place : ℕ
  pub token : Placed
  pub kind : Kind
  pub tokens : TokensUpTo piece.bytes.now 0 before place
  pub next : First piece.bytes.now place token
  pub is_fault : IsFault pieces (shifted piece.at before) (shift piece.at token) kind fault.at
  pub kind_is : fault.kind ≡ fault_kind kind

-- A fault of the file that stands in its preface: no first tokens of the file, however it goes on after the
-- fault, are a preface.
pub record HasPrefaceFault (text : List ℕ) (fault : Fault) : Type 0 where
  pub before : List Placed
  pub place : ℕ
  pub token : Placed
  pub kind : Kind
  pub tokens : TokensUpTo text 0 before place
  pub next : First text place token
  pub of_file : IsFault files before token kind fault.at
  pub of_preface : IsFault prefaces before token kind fault.at
  pub none_whole : (behind front rest : List Placed) (o : Opening) → before ++ token ∷ behind ≡ front ++ rest → ¬ (IsPreface deepest front o)
  pub kind_is : fault.kind ≡ fault_kind kind
