use Rattle.std.proofs.Common.{◌≡◌, ℕ, List}
use Rattle.p21_cut.specs.Cutter.{Gives, bytes_left, file_of}
use Rattle.p21_cut.specs.Pieces.{Piece, PiecesAre}
use Rattle.p21_cut.proofs.laws.one_cutting.Given as goal

-- what the cutter still gives makes a list from where the walk began
abbrev pub invariant-loop : goal.invariant-loop
invariant-loop l = record {
  goes : (ps : List Piece) → (end : ℕ) → Gives l.cutter ps end → (qs : List Piece) × PiecesAre l.file l.at 0 qs end;
  same : file_of l.cutter ≡ l.file;
}

abbrev pub decreases-loop : goal.decreases-loop
decreases-loop l = bytes_left l.cutter
