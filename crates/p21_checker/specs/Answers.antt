-- What a check by lanes answers.
use Rattle.std.specs.Prelude.{◌≡◌, ◌∷◌, ℕ, List, [], None, Err, Result, map}
use Rattle.p21_express.specs.Schema.{Schema}
use Rattle.p21_tree.specs.declared.faults.Fault.{Fault}
use Rattle.p21_tree.specs.Sentence.{Instance, Opening}
use Rattle.p21_tree.specs.Texts.{BeginsPreface}
use Rattle.p21_cut.specs.Cutter.{plain_piece}
use Rattle.p21_cut.specs.Pieces.{PiecesAre}
use Rattle.p21_check.specs.Header.{IsHeaderFault}
use Rattle.p21_crew.specs.declared.returned.Returned.{Returned}
use Rattle.p21_crew.specs.Run.{IsRun}
use Rattle.p21_lanes.specs.declared.receipt.Receipt.{Receipt}
use Rattle.p21_reader.specs.AllByValues.{IsAllAnswerTo}
use Rattle.p21_reader.specs.AllFaults.{IsReadingWithAll}
use Rattle.p21_reader.specs.LocalFault.{IsOpeningFault}
use Rattle.p21_reader.specs.Reading.{IsReading}
use Rattle.p21_reader.specs.declared.stop.Stop.{Stop}
use Rattle.p21_reader.specs.declared.stop.Stop.TheVariants as stop
use Rattle.p21_checker.specs.Checked.{IsStated, values_of}
use Rattle.p21_checker.specs.Counts.{Tells, TellsAll, TellsFirst}
use Rattle.p21_checker.specs.declared.check.FaultCheck.{FaultCheck}
use Rattle.p21_checker.specs.declared.check.FileCheck.{FileCheck}
use Rattle.p21_checker.specs.declared.checked_list.CheckedList.{CheckedList}
use Rattle.p21_checker.specs.declared.lists.PieceList.{PieceList}
use Rattle.p21_checker.specs.Lists.{pieces_in}

-- What the lanes of a check returned, by what may be stated of a list of pieces, and what an answer to it is. Where a fault stands before the
-- instances nothing was returned. Else there is a result of each list, which may be stated of it; each lane received its share of the lists
-- and returned its share of these results; and the answer is one to these.
pub data HaveReturned (states : PieceList → CheckedList → Type 0) (IsAnswer : ℕ → List CheckedList → Type 0) (s : Schema) (file : List ℕ) (lanes : ℕ) (dealt : List ℕ) (receipts : List (Receipt PieceList)) (returned : List (Receipt (Returned CheckedList))) : Type 0 where
  nothing : {f : Fault} → IsOpeningFault s file f → returned ≡ [] → HaveReturned states IsAnswer s file lanes dealt receipts returned
  results : {o : Opening} {tail : ℕ} (lists : List PieceList) (outs : List CheckedList) → BeginsPreface file o → IsHeaderFault s o None → PiecesAre file o.data_at 0 (map plain_piece (pieces_in lists)) tail
      → IsRun states lanes lists outs dealt receipts returned → IsAnswer tail outs → HaveReturned states IsAnswer s file lanes dealt receipts returned

-- an answer with all faults to what was returned, of which this is told
pub record AnswersTo (Told : Result (List Instance) (List Fault) → Type 0) (s : Schema) (file : List ℕ) (tail : ℕ) (outs : List CheckedList) : Type 0 where
  pub full : Result (List Instance) (List Fault)
  pub is_answer : IsAllAnswerTo s file tail (values_of outs) full
  pub told : Told full

-- The answer of a check tells that to the results that its lanes returned, which may be stated of the lists.
abbrev pub AllReturned : (PieceList → CheckedList → Type 0) → Schema → List ℕ → ℕ → FaultCheck → Type 0
AllReturned states s file lanes c = HaveReturned states (AnswersTo (TellsAll c.answer) s file) s file lanes c.dealt.items c.receipts.items c.returned.items

-- If there is a fault before the instances, nothing was returned. Otherwise there is a result of each list of pieces,
-- which may be stated of it; each lane received its share of the lists and returned its share of these results; and
-- of an answer with all faults to them the counts, or the first fault, are told.
abbrev pub FirstReturned : Schema → List ℕ → ℕ → FileCheck → Type 0
FirstReturned s file lanes c = HaveReturned (IsStated s) (AnswersTo (TellsFirst c.answer) s file) s file lanes c.dealt.items c.receipts.items c.returned.items

-- The file has a reading, of which the answer tells the counts or the fault.
pub record TellsReading (s : Schema) (file : List ℕ) (c : FileCheck) : Type 0 where
  pub full : Result (List Instance) Fault
  pub is_reading : IsReading s file full
  pub told : Tells c.answer full

-- The same with all faults.
pub record TellsReadingWithAll (s : Schema) (file : List ℕ) (c : FaultCheck) : Type 0 where
  pub full : Result (List Instance) (List Fault)
  pub is_reading : IsReadingWithAll s file full
  pub told : TellsAll c.answer full

-- the one fault at which reading stopped, with nothing dealt
abbrev pub IsStopped : Stop → FaultCheck → Type 0
IsStopped (stop.Fault f) c = TellsAll c.answer (Err (f ∷ [])) × (c.receipts.items ≡ []) × (c.dealt.items ≡ []) × (c.returned.items ≡ [])
IsStopped stop.Memory c = ⊥
