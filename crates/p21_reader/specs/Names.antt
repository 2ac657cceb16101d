-- The names of instances.
use Rattle.std.specs.Prelude.{◌≡◌, ℕ, List, Contains}
use Rattle.p21_tree.specs.Sentence.{Instance}

-- Each of these instances has one of the names, and each name is that of one of them.
pub record AreNames (IsName : ℕ → Type 0) (is : List Instance) : Type 0 where
  pub each : (i : Instance) → Contains is i → IsName i.name
  pub only : (n : ℕ) → IsName n → (i : Instance) × Contains is i × (i.name ≡ n)
