-- Which piece each lane gets.
use Rattle.std.specs.Prelude.{◌≡◌, ℕ, ◌<◌, ◌==◌, All, List, [], ◌∷◌, length, if◌then◌else◌}

module _ {X : Type 0} where
  -- the elements that a list of lanes, one for each element, gives to a lane, in order; it stops at the shorter list
  abbrev pub share : List ℕ → ℕ → List X → List X
  share [] lane xs = []
  share (l ∷ dealt) lane [] = []
  share (l ∷ dealt) lane (x ∷ xs) = if l == lane then x ∷ share dealt lane xs else share dealt lane xs

  -- each piece has one lane
  pub record IsDealing (lanes : ℕ) (dealt : List ℕ) (pieces : List X) : Type 0 where
    pub one_each : length dealt ≡ length pieces
    pub of_lanes : All (λ lane. lane < lanes) dealt
