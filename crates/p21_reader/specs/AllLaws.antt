-- What holds of all faults of every file.
use Rattle.std.specs.Prelude.{◌≡◌, ℕ, List, [], ◌∷◌, None, Result, Ok, Err, map}
use Rattle.std.specs.List.{AllZip}
use Rattle.p21_express.specs.Schema.{Schema}
use Rattle.p21_tree.specs.declared.faults.Fault.{Fault}
use Rattle.p21_tree.specs.declared.pieces.Piece.{Piece}
use Rattle.p21_tree.specs.Sentence.{Instance, Opening}
use Rattle.p21_tree.specs.Texts.{BeginsPreface}
use Rattle.p21_cut.specs.Pieces.{PiecesAre}
use Rattle.p21_cut.specs.Cutter.{plain_piece}
use Rattle.p21_check.specs.Header.{IsHeaderFault}
use Rattle.p21_reader.specs.Reading.{IsReading}
use Rattle.p21_reader.specs.Values.{Value, IsJudged}
use Rattle.p21_reader.specs.AllFaults.{AreAllFaults, IsReadingWithAll}
use Rattle.p21_reader.specs.AllByValues.{IsAllAnswerTo}

-- no two lists are all faults of the file
abbrev pub HasOneListOfFaultsAtMost : Schema → List ℕ → Type 0
HasOneListOfFaultsAtMost s file = (a b : List Fault) → AreAllFaults s file a → AreAllFaults s file b → a ≡ b

-- there are no faults and the answer is a model, or the first of them is the fault of the answer
abbrev pub BeginWithAnswer : List Fault → Result (List Instance) Fault → Type 0
BeginWithAnswer [] (Ok is) = Unit {0}
BeginWithAnswer [] (Err f) = ⊥
BeginWithAnswer (f ∷ fs) (Ok is) = ⊥
BeginWithAnswer (f ∷ fs) (Err g) = g ≡ f

-- All faults of a file are none exactly where its reading is a model, and else the first of them is the fault of the reading.
abbrev pub AllFaultsBeginWithReading : Schema → List ℕ → Type 0
AllFaultsBeginWithReading s file = (fs : List Fault) (answer : Result (List Instance) Fault) → AreAllFaults s file fs → IsReading s file answer → BeginWithAnswer fs answer

-- the file has a reading that these faults begin with
pub record BeginAReading (s : Schema) (file : List ℕ) (fs : List Fault) : Type 0 where
  pub answer : Result (List Instance) Fault
  pub is_reading : IsReading s file answer
  pub begins : BeginWithAnswer fs answer

-- Where a file has a list of all faults, it has a reading, with which they begin.
abbrev pub AllFaultsGiveReading : Schema → List ℕ → Type 0
AllFaultsGiveReading s file = (fs : List Fault) → AreAllFaults s file fs → BeginAReading s file fs

-- Behind a preface whose header has no fault, the answer with all faults to what the pieces of a file are by themselves is that of
-- the file.
abbrev pub ValuesGiveAllFaults : Schema → List ℕ → Type 0
ValuesGiveAllFaults s file = (o : Opening) (ps : List Piece) (end : ℕ) (vs : List Value) (answer : Result (List Instance) (List Fault)) → BeginsPreface file o → IsHeaderFault s o None → PiecesAre file o.data_at 0 (map plain_piece ps) end
    → AllZip (IsJudged s) ps vs → IsAllAnswerTo s file end vs answer → IsReadingWithAll s file answer
