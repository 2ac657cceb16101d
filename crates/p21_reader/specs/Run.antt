-- What judging the pieces of a file by lanes is.
use Rattle.std.specs.Prelude.{ℕ, List, map}
use Rattle.p21_tree.specs.declared.pieces.Piece.{Piece}
use Rattle.p21_cut.specs.Pieces.{PiecesAre}
use Rattle.p21_cut.specs.Cutter.{plain_piece}
use Rattle.p21_crew.specs.Run.{IsRun}
use Rattle.p21_reader.specs.declared.judged.Judged.{Judged}
use Rattle.p21_reader.specs.declared.run.Run.{Run}

-- Of the pieces of the file from a place on, after which the tail begins, each was dealt to exactly one lane. Each lane received
-- exactly its share of them, once, in file order, and returned its share of the outs; and the outs are what the judge may say of
-- the pieces, one by one.
pub record IsRunBy (judges : Piece → Judged → Type 0) (file : List ℕ) (at lanes : ℕ) (run : Run) : Type 0 where
  pub pieces : List Piece
  pub cutting : PiecesAre file at 0 (map plain_piece pieces) run.tail
  pub by_lanes : IsRun judges lanes pieces run.outs.items run.dealt.items run.receipts.items run.returned.items
