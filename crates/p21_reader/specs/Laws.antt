-- What holds of every schema and file.
use Rattle.std.specs.Prelude.{◌≡◌, ℕ, List, Option, None, Result, map}
use Rattle.std.specs.List.{AllZip}
use Rattle.p21_express.specs.Schema.{Schema}
use Rattle.p21_tree.specs.declared.faults.Fault.{Fault}
use Rattle.p21_tree.specs.declared.pieces.Piece.{Piece}
use Rattle.p21_tree.specs.Sentence.{Instance, Opening}
use Rattle.p21_tree.specs.Texts.{BeginsPreface, IsFileText, IsPieceText, HasTail}
use Rattle.p21_cut.specs.Pieces.{PiecesAre}
use Rattle.p21_cut.specs.Pieces.{Piece as Cut}
use Rattle.p21_cut.specs.Cutter.{plain_piece}
use Rattle.p21_check.specs.Header.{IsHeaderFault}
use Rattle.p21_reader.specs.GrammarOutcome.{ReadsParts, IsOutcomeOf}
use Rattle.p21_reader.specs.LocalFault.{IsOpeningFault}
use Rattle.p21_reader.specs.PiecesOf.{ArePiecesOf}
use Rattle.p21_reader.specs.Reading.{IsReading}
use Rattle.p21_reader.specs.ReadingBy.{IsReadingBy}
use Rattle.p21_reader.specs.Judged.{value_of}
use Rattle.p21_reader.specs.Values.{Value, IsJudged, IsAnswerTo}

-- no two answers are the reading of the file
abbrev pub HasOneReadingAtMost : Schema → List ℕ → Type 0
HasOneReadingAtMost s file = (a b : Result (List Instance) Fault) → IsReading s file a → IsReading s file b → a ≡ b

-- no two lists are the pieces of the file against the schema
abbrev pub HasOneListOfPiecesAtMost : Schema → List ℕ → Type 0
HasOneListOfPiecesAtMost s file = (ps qs : List Cut) → ArePiecesOf s file ps → ArePiecesOf s file qs → ps ≡ qs

-- Behind a preface, reading the pieces of a file in order and then its tail gives the tree of the file, or its grammar fault
-- and the instances that stand whole before it.
abbrev pub PiecesGiveFile : List ℕ → Type 0
PiecesGiveFile file = (o : Opening) (ps : List Piece) (end : ℕ) (is : List Instance) (found : Option Fault) → BeginsPreface file o → PiecesAre file o.data_at 0 (map plain_piece ps) end → ReadsParts file end ps is found → IsOutcomeOf file o is found

-- Behind a preface whose header has no fault, the answer to what the pieces of a file are by themselves is the reading of the file.
abbrev pub ValuesGiveReading : Schema → List ℕ → Type 0
ValuesGiveReading s file = (o : Opening) (ps : List Piece) (end : ℕ) (vs : List Value) (answer : Result (List Instance) Fault) → BeginsPreface file o → IsHeaderFault s o None → PiecesAre file o.data_at 0 (map plain_piece ps) end
    → AllZip (IsJudged s) ps vs → IsAnswerTo s file end vs answer → IsReading s file answer

-- What a file gives by what its pieces are by themselves is its reading, and these are its pieces.
abbrev pub LocalReadingIsReading : Schema → List ℕ → Type 0
LocalReadingIsReading s file = (ps : List Piece) (answer : Result (List Instance) Fault) → IsReadingBy s file (λ p j. IsJudged s p (value_of j)) ps answer → IsReading s file answer × ArePiecesOf s file (map plain_piece ps)

-- the piece is this instance, and both stand at one place
abbrev pub IsPieceOf : Piece → Instance → Type 0
IsPieceOf p i = IsPieceText p i × (p.at ≡ i.at)

-- The pieces after the preface of a file that is a sentence are its instances one by one, and its tail stands after them.
abbrev pub PiecesAreInstances : List ℕ → Type 0
PiecesAreInstances file = (o : Opening) (is : List Instance) (ps : List Piece) (end : ℕ) → IsFileText file o is → PiecesAre file o.data_at 0 (map plain_piece ps) end → AllZip IsPieceOf ps is × HasTail file end

-- The pieces of a file against a schema are its instances one by one, where it is a sentence and has no fault before its instances.
abbrev pub PiecesOfFileAreInstances : Schema → List ℕ → Type 0
PiecesOfFileAreInstances s file = (o : Opening) (is : List Instance) (ps : List Piece) → IsFileText file o is → ((f : Fault) → ¬ (IsOpeningFault s file f)) → ArePiecesOf s file (map plain_piece ps) → AllZip IsPieceOf ps is
