-- What stands in a file up to its first grammar fault.
use Rattle.std.specs.Prelude.{◌≡◌, ℕ, List, [], ◌∷◌, ◌++◌, Option, Some, None}
use Rattle.p21_text.specs.Tokens.{Placed, First, TokensUpTo}
use Rattle.p21_tree.specs.declared.faults.Fault.{Fault}
use Rattle.p21_tree.specs.declared.pieces.Piece.{Piece}
use Rattle.p21_tree.specs.Sentence.{Instance, Opening, IsPreface, IsInstances, deepest}
use Rattle.p21_tree.specs.Fault.{Kind, files, tails}
use Rattle.p21_tree.specs.InOrder.{StopsAt}
use Rattle.p21_tree.specs.Texts.{fault_kind, IsFileText, IsPieceText, HasTail, HasFault, HasPieceFault}

-- The file begins with this preface and, one after the other after it, these whole instances, up to a place.
pub record FileBeginsWith (file : List ℕ) (o : Opening) (is : List Instance) (place : ℕ) : Type 0 where
  pub opening : List Placed
  pub body : List Placed
  pub tokens : TokensUpTo file 0 (opening ++ body) place
  pub is_opening : IsPreface deepest opening o
  pub are_instances : IsInstances deepest body is

-- The first grammar fault of the file stands after this preface and these whole instances, and no further instance
-- stands whole before it.
pub record FileStopsBehind (file : List ℕ) (o : Opening) (is : List Instance) (fault : Fault) : Type 0 where
  pub opening : List Placed
  pub body : List Placed
  pub front : List Placed
  pub place : ℕ
  pub token : Placed
  pub kind : Kind
  pub tokens : TokensUpTo file 0 (opening ++ (body ++ front)) place
  pub next : First file place token
  pub is_opening : IsPreface deepest opening o
  pub are_instances : IsInstances deepest body is
  pub stops : StopsAt opening body front token kind fault.at
  pub kind_is : fault.kind ≡ fault_kind kind

-- Reading pieces in order, and then the tail at a place, gives their instances, or the first fault and the instances before it.
pub data ReadsParts (file : List ℕ) (end : ℕ) : List Piece → List Instance → Option Fault → Type 0 where
  whole : HasTail file end → ReadsParts file end [] [] None
  in_tail : {f : Fault} → HasFault tails file end f → ReadsParts file end [] [] (Some f)
  in_piece : {p : Piece} {ps : List Piece} {f : Fault} → HasPieceFault p f → ReadsParts file end (p ∷ ps) [] (Some f)
  next : {p : Piece} {ps : List Piece} {i : Instance} {is : List Instance} {found : Option Fault} → IsPieceText p i → ReadsParts file end ps is found → ReadsParts file end (p ∷ ps) (i ∷ is) found

-- The file is this preface and these instances; or it has this grammar fault, and these stand whole before it.
abbrev pub IsOutcomeOf : List ℕ → Opening → List Instance → Option Fault → Type 0
IsOutcomeOf file o is None = IsFileText file o is
IsOutcomeOf file o is (Some f) = HasFault files file 0 f × FileStopsBehind file o is f
