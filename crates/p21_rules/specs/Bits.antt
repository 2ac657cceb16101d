-- The bits of a binary, however it is spelled.
use Rattle.std.specs.Prelude.{ℕ, ◌-◌, ◌/◌, ◌%◌, nat_lt, if◌then◌else◌, List, [], ◌∷◌, ◌++◌, drop}

-- the value of a digit to the base 16, of which letters may be small
abbrev pub hex_value : ℕ → ℕ
hex_value b = if nat_lt b 65 then b - 48 else (if nat_lt b 97 then b - 55 else b - 87)

-- the four bits of such a value, the highest first
abbrev pub nibble : ℕ → List ℕ
nibble v = v / 8 % 2 ∷ v / 4 % 2 ∷ v / 2 % 2 ∷ v % 2 ∷ []

-- those of some digits
abbrev pub nibbles : List ℕ → List ℕ
nibbles [] = []
nibbles (b ∷ bs) = nibble (hex_value b) ++ nibbles bs

-- The bits of a binary: those of its further digits, without as many in front as its first digit says.
abbrev pub bits : List ℕ → List ℕ
bits [] = []
bits (b ∷ bs) = drop (b - 48) (nibbles bs)
