-- What a cutter gives, one piece after the other.
use Rattle.std.specs.Prelude.{ℕ, ◌<◌, List, [], ◌∷◌}
use Rattle.p21_crew.specs.declared.cuts.Next.{Next}
use Rattle.p21_crew.specs.declared.cuts.Next.TheVariants.{Piece, Tail}

module _ {C P : Type 0} where
  -- A piece stands before whatever is cut from then on; a tail ends the pieces.
  abbrev pub CutsNext : (C → List P → ℕ → Type 0) → C → Next P → C → Type 0
  CutsNext cuts old (Piece p) new = (pieces : List P) (tail : ℕ) → cuts new pieces tail → cuts old (p ∷ pieces) tail
  CutsNext cuts old (Tail at) new = cuts old [] at

  -- with each piece less is left
  abbrev pub LeavesLess : (C → ℕ) → C → Next P → C → Type 0
  LeavesLess left old (Piece p) new = left new < left old
  LeavesLess left old (Tail at) new = Unit {0}
