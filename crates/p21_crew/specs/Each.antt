-- What is said of each element of a list by its number.
use Rattle.std.specs.Prelude.{ℕ, suc, List, [], ◌∷◌}

-- the elements of a list, from a number on, each stand in a relation to their numbers
abbrev pub EachAt : {X : Type 0} → (ℕ → X → Type 0) → ℕ → List X → Type 0
EachAt R k [] = Unit {0}
EachAt R k (x ∷ xs) = R k x × EachAt R (suc k) xs
