-- Which of an entity and its ancestors newly declares a name.
use Rattle.std.specs.Prelude.{◌≡◌, ◌<◌, ◌≤◌, ◌↔◌, ◌⊎◌, ℕ, List, length}
use Rattle.p21_graph.specs.declared.bits.Bits.{Bits}
use Rattle.p21_graph.specs.Bits.{Holds}
use Rattle.p21_express.specs.Again.{IsNewAt}
use Rattle.p21_express.specs.Index.{IsEntityAt}
use Rattle.p21_express.specs.Schema.{Schema}
use Rattle.p21_express.specs.WellFormed.{IsAncestor}

-- for each entity, by positions, itself and its ancestors
pub record IsAncestry (s : Schema) (table : Bits) : Type 0 where
  pub rows : table.rows ≡ length s.entities
  pub columns : table.columns ≡ length s.entities
  pub holds : (i j : ℕ) (m n : List ℕ) → IsEntityAt s i m → IsEntityAt s j n → Holds table i j ↔ ((m ≡ n) ⊎ IsAncestor s m n)

-- the entity at i is the one at `of` or its ancestor, and newly declares the name
pub record IsOwner (s : Schema) (ancestry : Bits) (of : ℕ) (n : List ℕ) (i : ℕ) : Type 0 where
  pub above : Holds ancestry of i
  pub newly : IsNewAt s n i

-- the first of these, from a position on
pub record IsFirstOwner (s : Schema) (ancestry : Bits) (first of : ℕ) (n : List ℕ) (i : ℕ) : Type 0 where
  pub owner : IsOwner s ancestry of n i
  pub from : first ≤ i
  pub before : (j : ℕ) → first ≤ j → j < i → ¬ (IsOwner s ancestry of n j)

-- the only one of these
pub record IsOnlyOwner (s : Schema) (ancestry : Bits) (of : ℕ) (n : List ℕ) (i : ℕ) : Type 0 where
  pub owner : IsOwner s ancestry of n i
  pub only : (j : ℕ) → IsOwner s ancestry of n j → j ≡ i
