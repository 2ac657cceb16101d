-- What holds of every file.
use Rattle.std.specs.Prelude.{◌≡◌, ◌≤◌, ℕ, List, [], length}
use Rattle.p21_cut.specs.Pieces.{Piece, IsNext, PiecesAre}

-- from whatever number on, one list of pieces with its tail, and no other, stands from a place on; the tail lies in the file
abbrev pub HasOneCutting : List ℕ → ℕ → Type 0
HasOneCutting file at = (number : ℕ) → (ps : List Piece) × (end : ℕ) × PiecesAre file at number ps end × (end ≤ length file) × ((qs : List Piece) (other : ℕ) → PiecesAre file at number qs other → (qs ≡ ps) × (other ≡ end))

-- from whatever number on, no two lists of pieces and their tails stand from a place on
abbrev pub HasOneCuttingAtMost : List ℕ → ℕ → Type 0
HasOneCuttingAtMost file at = (number : ℕ) (ps qs : List Piece) (end other : ℕ) → PiecesAre file at number ps end → PiecesAre file at number qs other → (ps ≡ qs) × (end ≡ other)

-- from whatever number on, no two pieces come next from a place on, and none where the tail begins
abbrev pub HasOneNextAtMost : List ℕ → ℕ → Type 0
HasOneNextAtMost file at = (number : ℕ) (p : Piece) (next : ℕ) → IsNext file at number p next → ((q : Piece) (other : ℕ) → IsNext file at number q other → (p ≡ q) × (next ≡ other)) × ((end : ℕ) → ¬ (PiecesAre file at number [] end))
