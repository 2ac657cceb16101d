-- What the vertices of a graph reach.
use Rattle.std.specs.Prelude.{◌≡◌, ◌<◌, ◌↔◌, ℕ, List, length}
use Rattle.p21_graph.specs.declared.bits.Bits.{Bits}
use Rattle.p21_graph.specs.Bits.{Holds}
use Rattle.p21_graph.specs.Graph.{HasEdge, Reaches}
use Rattle.p21_graph.specs.Members.{IsIn}

-- A vertex reaches itself, and what its neighbors reach.
pub data IsWithin (graph : List (List ℕ)) : ℕ → ℕ → Type 0 where
  itself : {a b : ℕ} → a ≡ b → IsWithin graph a b
  through : {a b x : ℕ} → HasEdge graph a b → IsWithin graph b x → IsWithin graph a x

-- one of these rows holds the column
abbrev pub SomeHolds : Bits → List ℕ → ℕ → Type 0
SomeHolds t rows column = (row : ℕ) × (IsIn rows row × Holds t row column)

-- for each vertex what it reaches of so many items
pub record IsReachTable (direct : List (List ℕ)) (items : ℕ) (graph : List (List ℕ)) (table : Bits) : Type 0 where
  pub rows : table.rows ≡ length graph
  pub columns : table.columns ≡ items
  pub holds : (v k : ℕ) → v < length graph → Holds table v k ↔ Reaches direct graph v k

-- for each vertex itself and what it reaches
pub record IsReach (graph : List (List ℕ)) (table : Bits) : Type 0 where
  pub rows : table.rows ≡ length graph
  pub columns : table.columns ≡ length graph
  pub holds : (a b : ℕ) → a < length graph → Holds table a b ↔ IsWithin graph a b
