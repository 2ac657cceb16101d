-- What a file gives by what its pieces are said to be.
use Rattle.std.specs.Prelude.{ℕ, List, [], map, None, Result, Err}
use Rattle.std.specs.List.{AllZip}
use Rattle.p21_express.specs.Schema.{Schema}
use Rattle.p21_tree.specs.declared.faults.Fault.{Fault}
use Rattle.p21_tree.specs.declared.pieces.Piece.{Piece}
use Rattle.p21_tree.specs.Sentence.{Instance, Opening}
use Rattle.p21_tree.specs.Texts.{BeginsPreface}
use Rattle.p21_cut.specs.Pieces.{PiecesAre}
use Rattle.p21_cut.specs.Cutter.{plain_piece}
use Rattle.p21_check.specs.Header.{IsHeaderFault}
use Rattle.p21_reader.specs.LocalFault.{IsOpeningFault}
use Rattle.p21_reader.specs.Values.{IsAnswerTo}
use Rattle.p21_reader.specs.Judged.{value_of}
use Rattle.p21_reader.specs.declared.judged.Judged.{Judged}

-- The pieces of a file and its answer, where `says p j` holds of what may be said of a piece: no pieces and the fault before the
-- instances, where there is one; else those after the preface, and the answer to something that may be said of each.
pub data IsReadingBy (s : Schema) (file : List ℕ) (says : Piece → Judged → Type 0) : List Piece → Result (List Instance) Fault → Type 0 where
  before_instances : {f : Fault} → IsOpeningFault s file f → IsReadingBy s file says [] (Err f)
  by_pieces : {o : Opening} {ps : List Piece} {end : ℕ} (js : List Judged) {answer : Result (List Instance) Fault} → BeginsPreface file o → IsHeaderFault s o None → PiecesAre file o.data_at 0 (map plain_piece ps) end → AllZip says ps js → IsAnswerTo s file end (map value_of js) answer
      → IsReadingBy s file says ps answer
