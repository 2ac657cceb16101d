-- What a reading by lanes is.
use Rattle.std.specs.Prelude.{◌≡◌, ℕ, All, List, [], length, map, None}
use Rattle.std.specs.List.{AllZip}
use Rattle.p21_express.specs.Schema.{Schema}
use Rattle.p21_tree.specs.declared.faults.Fault.{Fault}
use Rattle.p21_tree.specs.declared.instances.RawInstance.{RawInstance}
use Rattle.p21_tree.specs.declared.pieces.Piece.{Piece}
use Rattle.p21_tree.specs.Sentence.{Opening}
use Rattle.p21_tree.specs.Texts.{BeginsPreface}
use Rattle.p21_tree.specs.Views.{plain_instance}
use Rattle.p21_cut.specs.Cutter.{plain_piece}
use Rattle.p21_cut.specs.Pieces.{PiecesAre}
use Rattle.p21_check.specs.Header.{IsHeaderFault}
use Rattle.p21_check.specs.LocalFault.{IsLocalFault}
use Rattle.p21_lanes.specs.declared.receipt.Receipt.{Receipt}
use Rattle.p21_lanes.specs.Receipt.{passed, IsEnded}
use Rattle.p21_desk.specs.Dealing.{share, IsDealing}
use Rattle.p21_crew.specs.declared.returned.Returned.{Returned}
use Rattle.p21_crew.specs.Each.{EachAt}
use Rattle.p21_crew.specs.Run.{IsRun}
use Rattle.p21_reader.specs.declared.judged.Judged.{Judged}
use Rattle.p21_reader.specs.declared.judged.Judged.TheVariants as judged
use Rattle.p21_reader.specs.declared.judged.Judgement.{Judgement}
use Rattle.p21_reader.specs.declared.reading.Reading.{Reading}
use Rattle.p21_reader.specs.Answer.{plain_answer}
use Rattle.p21_reader.specs.declared.first_fault.Gathering.{Gathering}
use Rattle.p21_reader.specs.FirstFault.{IsGathered}
use Rattle.p21_reader.specs.Judged.{HasOwnEntity, value_of, values_of}
use Rattle.p21_reader.specs.LocalFault.{IsOpeningFault}
use Rattle.p21_reader.specs.PiecesOf.{ArePiecesOf}
use Rattle.p21_reader.specs.ReadingBy.{IsReadingBy}
use Rattle.p21_reader.specs.Values.{IsAnswerTo, IsJudged}

-- what a worker may say of a piece: what its judge may, and beside it the instance's own entity
abbrev pub IsStated : (Piece → Judged → Type 0) → Schema → Piece → Judgement → Type 0
IsStated judges s p j = judges p j.judged × HasOwnEntity s j

-- a judge finds no fault only in an instance that has none by itself
abbrev pub FindsEachFault : (Piece → Judged → Type 0) → Schema → Type 0
FindsEachFault judges s = (p : Piece) (i : RawInstance) → judges p (judged.Whole i None) → IsLocalFault s (plain_instance i) None

-- this was gathered of what the workers said of some pieces
abbrev pub AreGathered : (Piece → Judged → Type 0) → Schema → Gathering → Type 0
AreGathered judges s g = (pieces : List Piece) × (js : List Judgement) × IsGathered g js × AllZip (IsStated judges s) pieces js

-- Each piece was dealt to exactly one lane, and each lane received exactly its pieces, once, in file order, and then its end and
-- nothing after it.
pub record AreDealt (lanes : ℕ) (pieces : List Piece) (dealt : List ℕ) (receipts : List (Receipt Piece)) : Type 0 where
  pub dealing : IsDealing lanes dealt pieces
  pub one_each : length receipts ≡ lanes
  pub shares : EachAt (λ lane receipt. passed receipt ≡ share dealt lane pieces) 0 receipts
  pub ended : All IsEnded receipts

-- How these pieces of a file were dealt: where a fault stands before the instances there are none, and no receipts; else they were
-- dealt to the lanes.
pub data AreDealtIn (s : Schema) (file : List ℕ) (lanes : ℕ) (dealt : List ℕ) (receipts : List (Receipt Piece)) : List Piece → Type 0 where
  none : {f : Fault} → IsOpeningFault s file f → dealt ≡ [] → receipts ≡ [] → AreDealtIn s file lanes dealt receipts []
  all : {o : Opening} {pieces : List Piece} → BeginsPreface file o → IsHeaderFault s o None → AreDealt lanes pieces dealt receipts → AreDealtIn s file lanes dealt receipts pieces

-- The reading of a file by lanes whose workers judge its pieces: its answer is what the file gives by what the judge may say of them,
-- and they were dealt.
pub record IsReadBy (judges : Piece → Judged → Type 0) (s : Schema) (file : List ℕ) (lanes : ℕ) (r : Reading) : Type 0 where
  pub pieces : List Piece
  pub answer : IsReadingBy s file judges pieces (plain_answer r.answer)
  pub dealt : AreDealtIn s file lanes r.dealt.items r.receipts.items pieces

-- The pieces of the file against the schema were dealt.
pub record PiecesAreDealt (s : Schema) (file : List ℕ) (lanes : ℕ) (dealt : List ℕ) (receipts : List (Receipt Piece)) : Type 0 where
  pub pieces : List Piece
  pub of_file : ArePiecesOf s file (map plain_piece pieces)
  pub as_dealt : AreDealtIn s file lanes dealt receipts pieces

-- What the lanes of a reading returned, by what may be said of a piece, and what an answer to it is. Where a fault stands before the
-- instances nothing was returned. Else there is a result of each piece, which may be said of it; each lane received its share of the
-- pieces and returned its share of these results; and the answer is one to these.
pub data HaveReturned (judges : Piece → Judged → Type 0) (IsAnswer : ℕ → List Judgement → Type 0) (s : Schema) (file : List ℕ) (lanes : ℕ) (dealt : List ℕ) (receipts : List (Receipt Piece)) (returned : List (Receipt (Returned Judgement))) : Type 0 where
  nothing : {f : Fault} → IsOpeningFault s file f → returned ≡ [] → HaveReturned judges IsAnswer s file lanes dealt receipts returned
  results : {o : Opening} {tail : ℕ} (pieces : List Piece) (outs : List Judgement) → BeginsPreface file o → IsHeaderFault s o None → PiecesAre file o.data_at 0 (map plain_piece pieces) tail
      → IsRun (IsStated judges s) lanes pieces outs dealt receipts returned → IsAnswer tail outs → HaveReturned judges IsAnswer s file lanes dealt receipts returned

-- The answer of a reading is that to the results that its lanes returned.
abbrev pub AnswersReturned : (Piece → Judged → Type 0) → Schema → List ℕ → ℕ → Reading → Type 0
AnswersReturned judges s file lanes r = HaveReturned judges (λ tail outs. IsAnswerTo s file tail (values_of outs) (plain_answer r.answer)) s file lanes r.dealt.items r.receipts.items r.returned.items

-- pieces are judged as they are by themselves
abbrev pub JudgesLocally : Schema → Piece → Judged → Type 0
JudgesLocally s p j = IsJudged s p (value_of j)

-- a judge says of a piece what it is by itself, and nothing else
abbrev pub SaysLocally : (Piece → Judged → Type 0) → Schema → Type 0
SaysLocally judges s = (p : Piece) (j : Judged) → judges p j → JudgesLocally s p j
