-- Graphs by lists of neighbors.
use Rattle.std.specs.Prelude.{ℕ, ◌<◌, List, [], map, length, get_or, Vec}
use Rattle.std.specs.declared.alloc.Global.{Global}
use Rattle.p21_express.specs.WellFormed.{IsIn}

-- for each vertex those to which an edge leads
abbrev pub lists : List (Vec ℕ Global) → List (List ℕ)
lists graph = map (λ v. v.items) graph

abbrev pub neighbors : List (List ℕ) → ℕ → List ℕ
neighbors g v = get_or g v []

-- an edge leads from a to the vertex b
pub record HasEdge (g : List (List ℕ)) (a b : ℕ) : Type 0 where
  pub is_vertex : b < length g
  pub listed : IsIn (neighbors g a) b
