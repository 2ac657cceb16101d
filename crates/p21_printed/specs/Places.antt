-- Lines and columns.
use Rattle.std.specs.Prelude.{◌≡◌, ℕ, ◌+◌, ◌-◌, ◌<◌, ◌≤◌, ◌⊎◌, List, length, drop, slice_index}
use Rattle.memchr.specs.Find.{is_byte, places}
use Rattle.bstr.specs.Utf8.{lossy_chars}
use Rattle.p21_printed.specs.declared.place.Place.{Place}

-- how many line ends a text has: its bytes 10
abbrev pub line_ends : List ℕ → ℕ
line_ends t = length (places (is_byte 10) t)

-- the line in which a text ends begins at a place: from there on is no line end, and right before it is one, or nothing
pub record IsLineStart (t : List ℕ) (start : ℕ) : Type 0 where
  pub within : start ≤ length t
  pub clean : (k : ℕ) → start ≤ k → k < length t → ¬ (slice_index t k ≡ 10)
  pub begins : (start ≡ 0) ⊎ (slice_index t (start - 1) ≡ 10)

-- the column after a text whose last line begins at a place: one more than the characters since
abbrev pub column_of : List ℕ → ℕ → ℕ
column_of t start = length (lossy_chars (drop start t)) + 1

-- where the byte after a text stands: its line, where this begins, and its column
pub record IsPlace (t : List ℕ) (p : Place) : Type 0 where
  pub line : p.line ≡ line_ends t + 1
  pub start : IsLineStart t p.start
  pub column : p.column ≡ column_of t p.start
