use Rattle.std.proofs.Common.{◌≡◌, ◌≤◌, ◌++◌, ℕ, List, length, vec_capacity}
use Rattle.p21_tree.specs.declared.pieces.Piece.{Piece}
use Rattle.p21_cut.specs.Cutter.{bytes_left}
use Rattle.p21_reader.specs.Pieces.{AreGiven}
use Rattle.p21_checker.proofs.lists.PieceLists.fill.Given as goal

-- what is given from now on stands after the pieces in the list, in which there is room, and of which there are not too many
abbrev pub invariant-loop-self : goal.invariant-loop-self
invariant-loop-self l =
    ((ps : List Piece) (tail : ℕ) → AreGiven l.self.pieces ps tail → AreGiven l.initial.self.pieces (l.others.items ++ ps) tail)
    × (bytes_left l.self.pieces.cutter ≤ bytes_left l.initial.self.pieces.cutter)
    × (l.self.most_others ≤ vec_capacity l.others)
    × (length l.others.items ≤ l.self.most_others)
    × (l.self.most_others ≡ l.initial.self.most_others)

-- with each piece fewer bytes are left
abbrev pub decreases-loop-self : goal.decreases-loop-self
decreases-loop-self l = bytes_left l.self.pieces.cutter
