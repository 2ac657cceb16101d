-- The pieces of a file on its way to the lanes.
use Rattle.std.specs.Prelude.{ℕ, ◌≤◌, List, length, map}
use Rattle.p21_tree.specs.declared.pieces.Piece.{Piece}
use Rattle.p21_cut.specs.Cutter.{Gives, file_of, plain_piece}
use Rattle.p21_reader.specs.declared.pieces.Pieces.{Pieces}

-- These pieces are given from now on, and then the tail, which begins at a place of the file.
abbrev pub AreGiven : Pieces → List Piece → ℕ → Type 0
AreGiven pieces ps tail = Gives pieces.cutter (map plain_piece ps) tail × (tail ≤ length (file_of pieces.cutter))
