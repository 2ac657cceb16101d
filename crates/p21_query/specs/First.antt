-- The first element of a list that is as wanted.
use Rattle.std.specs.Prelude.{◌≡◌, ◌<◌, ◌≤◌, ℕ, List, Option, None, Some, slice_get}

-- The first element from a place on of which P holds: it stands there, and of those before it Q holds; where there is none, Q holds of all.
abbrev pub IsFirst : {X : Type 0} → (X → Type 0) → (X → Type 0) → List X → ℕ → Option ℕ → Type 0
IsFirst {X} P Q xs from None = (i : ℕ) (x : X) → from ≤ i → slice_get xs i ≡ Some x → Q x
IsFirst {X} P Q xs from (Some n) = ((from ≤ n) × ((x : X) × ((slice_get xs n ≡ Some x) × P x))) × ((i : ℕ) (x : X) → from ≤ i → i < n → slice_get xs i ≡ Some x → Q x)
