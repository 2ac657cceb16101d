-- Separators one at a time: a white byte, or a whole comment.
use Rattle.std.specs.Prelude.{◌≡◌, ℕ, ◌<◌, ◌≤◌, List, [], ◌∷◌, ◌++◌, length, take}
use Rattle.p21_text.specs.Separators.{IsWhite, IsComment}

-- a white byte, or a comment
pub data IsUnit : List ℕ → Type 0 where
  white : {b : ℕ} → IsWhite b → IsUnit (b ∷ [])
  comment : {text : List ℕ} → IsComment text → IsUnit text

-- no separator stands at the front of a text
abbrev pub HasNoUnit : List ℕ → Type 0
HasNoUnit text = (front behind : List ℕ) → text ≡ front ++ behind → ¬ (IsUnit front)

-- the first n bytes are one separator
pub record UnitIs (text : List ℕ) (n : ℕ) : Type 0 where
  pub some : 0 < n
  pub fits : n ≤ length text
  pub unit : IsUnit (take n text)
