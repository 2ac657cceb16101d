-- The pieces of a file against a schema.
use Rattle.std.specs.Prelude.{ℕ, List, [], None}
use Rattle.p21_express.specs.Schema.{Schema}
use Rattle.p21_tree.specs.declared.faults.Fault.{Fault}
use Rattle.p21_tree.specs.Sentence.{Opening}
use Rattle.p21_tree.specs.Texts.{BeginsPreface}
use Rattle.p21_cut.specs.Pieces.{Piece, PiecesAre}
use Rattle.p21_check.specs.Header.{IsHeaderFault}
use Rattle.p21_reader.specs.LocalFault.{IsOpeningFault}

-- They are those from after `DATA;` on. There are none where a fault stands before the instances.
pub data ArePiecesOf (s : Schema) (file : List ℕ) : List Piece → Type 0 where
  none : {f : Fault} → IsOpeningFault s file f → ArePiecesOf s file []
  behind_preface : {o : Opening} {ps : List Piece} {end : ℕ} → BeginsPreface file o → IsHeaderFault s o None → PiecesAre file o.data_at 0 ps end → ArePiecesOf s file ps
