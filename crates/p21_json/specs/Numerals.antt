-- The numbers of a file as JSON writes them.
use Rattle.std.specs.Prelude.{ℕ, List, [], ◌∷◌, Bool, false, not, ◌&&◌, ◌==◌, if◌then◌else◌}
use Rattle.std.specs.Char.{is_ascii_digit}

abbrev pub begins_with_digit : List ℕ → Bool
begins_with_digit [] = false
begins_with_digit (b ∷ rest) = is_ascii_digit b

-- without the zeros in front that a further digit follows
abbrev pub without_zeros : List ℕ → List ℕ
without_zeros [] = []
without_zeros (b ∷ rest) = if b == 48 && begins_with_digit rest then without_zeros rest else b ∷ rest

-- with a zero after a point that no digit follows
abbrev pub with_fraction : List ℕ → List ℕ
with_fraction [] = []
with_fraction (b ∷ rest) = if b == 46 && not (begins_with_digit rest) then 46 ∷ 48 ∷ with_fraction rest else b ∷ with_fraction rest

-- An integer or a real with its digits and its exponent: without `+` in front and without zeros in front, and with a digit after the point.
abbrev pub numeral_of : List ℕ → List ℕ
numeral_of [] = []
numeral_of (b ∷ rest) = if b == 45 then 45 ∷ with_fraction (without_zeros rest) else with_fraction (without_zeros (if b == 43 then rest else b ∷ rest))
