-- Runs of bytes of one kind, and what a token can begin with.
use Rattle.std.specs.Prelude.{◌≡◌, ℕ, ◌≤◌, ◌⊎◌, List, [], ◌∷◌, length, take, drop}
use Rattle.std.specs.List.{AllByRecursion}
use Rattle.p21_text.specs.Items.{IsHexDigit}
use Rattle.p21_text.specs.Spelling.{IsUpper, IsDigit, NotBefore}

-- P holds of each of the first n bytes, and not of the byte after them
pub record IsRun (P : ℕ → Type 0) (text : List ℕ) (n : ℕ) : Type 0 where
  pub fits : n ≤ length text
  pub each : AllByRecursion P (take n text)
  pub stops : NotBefore P (drop n text)

-- a byte inside a name
abbrev pub IsNameByte : ℕ → Type 0
IsNameByte b = IsUpper b ⊎ IsDigit b

-- a digit to the base 16, whatever its value
abbrev pub IsHexByte : ℕ → Type 0
IsHexByte b = (v : ℕ) × IsHexDigit b v

-- a Digit, `+` or `-`
abbrev pub IsNumberByte : ℕ → Type 0
IsNumberByte b = IsDigit b ⊎ ((b ≡ 43) ⊎ (b ≡ 45))

-- the first byte is such a one
abbrev pub FirstIs : (ℕ → Type 0) → List ℕ → Type 0
FirstIs P [] = ⊥
FirstIs P (b ∷ rest) = P b
