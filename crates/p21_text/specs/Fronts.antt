-- What the parts of a number and a name at the front of a text are: the longest that there are.
use Rattle.std.specs.Prelude.{◌≡◌, ℕ, ◌≤◌, List, ◌++◌, length, take, drop}
use Rattle.std.specs.List.{AllByRecursion}
use Rattle.p21_text.specs.Spelling.{IsDigit, IsInt, IsExponent, NotBefore}

-- the first n bytes are a P, and no longer front is
pub record LongestOf (P : List ℕ → Type 0) (text : List ℕ) (n : ℕ) : Type 0 where
  pub fits : n ≤ length text
  pub holds : P (take n text)
  pub longest : (front behind : List ℕ) → text ≡ front ++ behind → P front → length front ≤ n

-- no front is a P
abbrev pub NoFrontIs : (List ℕ → Type 0) → List ℕ → Type 0
NoFrontIs P text = (front behind : List ℕ) → text ≡ front ++ behind → ¬ (P front)

-- the first n bytes are an integer, with all its Digits
pub record IntIs (text : List ℕ) (n : ℕ) : Type 0 where
  pub fits : n ≤ length text
  pub is_int : IsInt (take n text)
  pub stops : NotBefore IsDigit (drop n text)

-- what may stand after a real's point
pub record IsFraction (text : List ℕ) : Type 0 where
  pub digits : List ℕ
  pub exponent : List ℕ
  pub spelled : text ≡ digits ++ exponent
  pub are_digits : AllByRecursion IsDigit digits
  pub is_exponent : IsExponent exponent
