use Rattle.std.proofs.Common.{ℕ, List, length, map, ◌+◌, ◌≤◌, subst}
use Rattle.p21_cut.specs.Pieces.{PiecesAre, piece}
use Rattle.p21_cut.specs.Cutter.{file_of, number_of, place_of, plain_piece}
use Rattle.p21_reader.proofs.pieces.PiecesCuts.next.Goals as goal

pub returns-in-Piece-clause-next : goal.returns-in-Piece-clause-next
returns-in-Piece-clause-next c pieces tail gives =
    let old = c.args.self.now.cutter in
    let new = c.next.new.self in
    let Numbered : ℕ → Type 0 = λ n. PiecesAre (file_of new) (place_of new) n (map plain_piece pieces) tail in
    let OfFile : List ℕ → Type 0 = λ f. PiecesAre f (place_of new) (number_of old + 1) (map plain_piece pieces) tail in
    let Within : List ℕ → Type 0 = λ f. tail ≤ length f in
    let behind = subst OfFile c.in-Piece.ensures.file (subst Numbered c.in-Piece.ensures.next.1 gives.0) in
    (piece c.in-Piece.ensures.next.0 behind, subst Within c.in-Piece.ensures.file gives.1)
