-- Text in colours.
use Rattle.std.specs.Prelude.{◌≡◌, ℕ, List, [], ◌∷◌, ◌++◌}

-- an escape sequence of a terminal: ESC, `[`, `1;31`, `1;34` or `0`, and `m`; what follows is bold and red, bold and blue, or as at first
pub data IsSequence : List ℕ → Type 0 where
  red : IsSequence (27 ∷ 91 ∷ 49 ∷ 59 ∷ 51 ∷ 49 ∷ 109 ∷ [])
  blue : IsSequence (27 ∷ 91 ∷ 49 ∷ 59 ∷ 51 ∷ 52 ∷ 109 ∷ [])
  plain : IsSequence (27 ∷ 91 ∷ 48 ∷ 109 ∷ [])

-- a text, with such sequences put between its bytes
pub data IsPainted : List ℕ → List ℕ → Type 0 where
  nothing : IsPainted [] []
  more : {t p : List ℕ} (u : List ℕ) → IsPainted t p → IsPainted (t ++ u) (p ++ u)
  sequence : {t p s : List ℕ} → IsPainted t p → IsSequence s → IsPainted t (p ++ s)

-- a front of a text is so painted, and what stands after it is left
abbrev pub IsPaintedUpTo : List ℕ → List ℕ → List ℕ → Type 0
IsPaintedUpTo whole p rest = (t : List ℕ) × IsPainted t p × (whole ≡ t ++ rest)
