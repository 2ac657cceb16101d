-- Tables of bits.
use Rattle.std.specs.Prelude.{◌≡◌, ◌<◌, ◌+◌, ◌*◌, ◌/◌, ◌%◌, ℕ, get_or}
use Rattle.std.specs.Int.{bit_at}
use Rattle.p21_graph.specs.declared.bits.Bits.{Bits}
use Rattle.p21_graph.specs.declared.bits.TheConstants.{BITS}

-- the word of a row at a place
abbrev pub word_at : Bits → ℕ → ℕ → ℕ
word_at t row place = get_or t.words.items (row * t.width + place) 0

-- a row holds a column: one of its words has the bit of the column, and it is set
pub record Holds (t : Bits) (row column : ℕ) : Type 0 where
  pub within : column / BITS < t.width
  pub set : bit_at (word_at t row (column / BITS)) (column % BITS) ≡ 1

-- a table of as many rows and columns, in as many words
pub record IsLike (old new : Bits) : Type 0 where
  pub rows : new.rows ≡ old.rows
  pub columns : new.columns ≡ old.columns
  pub width : new.width ≡ old.width
