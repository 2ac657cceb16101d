-- What a cutter still gives.
use Rattle.std.specs.Prelude.{◌≡◌, ◌+◌, ◌-◌, ◌<◌, ◌≤◌, ℕ, List, [], length}
use Rattle.p21_tree.specs.declared.pieces.Piece.{Piece}
use Rattle.p21_cut.specs.Pieces as pieces
use Rattle.p21_cut.specs.declared.cutter.Cutter.{Cutter}
use Rattle.p21_cut.specs.declared.cutter.Cut.{Cut}
use Rattle.p21_cut.specs.declared.cutter.Cut.TheVariants as cut

-- the piece of the code, without where its bytes lie in memory
abbrev pub plain_piece : Piece → pieces.Piece
plain_piece p = record { number = p.number; at = p.at; bytes = p.bytes.now }

-- the file that is cut
abbrev pub file_of : Cutter → List ℕ
file_of c = c.file.now

-- the place where cutting goes on
abbrev pub place_of : Cutter → ℕ
place_of c = c.at

-- the number of the next piece
abbrev pub number_of : Cutter → ℕ
number_of c = c.number

-- the pieces that the cutter gives from now on, and the tail after them
abbrev pub Gives : Cutter → List pieces.Piece → ℕ → Type 0
Gives c ps end = pieces.PiecesAre (file_of c) (place_of c) (number_of c) ps end

-- how many bytes are left to cut
abbrev pub bytes_left : Cutter → ℕ
bytes_left c = length c.file.now - c.at

-- A call gives the next piece, and cutting goes on after it; or, where no piece is left, the tail, which lies in the
-- file, and then the cutter stays as it was.
abbrev pub GivesNext : Cutter → Cut → Cutter → Type 0
GivesNext old (cut.Piece p) new = pieces.IsNext (file_of old) (place_of old) (number_of old) (plain_piece p) (place_of new) × (number_of new ≡ number_of old + 1)
GivesNext old (cut.Tail end) new = Gives old [] end × (new ≡ old) × (end ≤ length (file_of old))

-- with each piece fewer bytes are left
abbrev pub LeavesLess : Cutter → Cut → Cutter → Type 0
LeavesLess old (cut.Piece p) new = bytes_left new < bytes_left old
LeavesLess old (cut.Tail end) new = Unit {0}
