-- Graphs by lists of neighbors.
use Rattle.std.specs.Prelude.{◌∷◌, ◌≡◌, ◌<◌, ◌≤◌, ◌+◌, ◌-◌, ◌*◌, ℕ, suc, Bool, true, false, List, [], map, length, get_or, take, Vec}
use Rattle.p21_graph.specs.Members.{IsIn, AreDistinct}

-- one step or more lead from one to another
pub data Leads {X : Type 0} (Step : X → X → Type 0) : X → X → Type 0 where
  one : {a b : X} → Step a b → Leads Step a b
  more : {a b c : X} → Step a b → Leads Step b c → Leads Step a c

-- no way leads from one back to itself
abbrev pub HasNoCycle : {X : Type 0} → (X → X → Type 0) → Type 0
HasNoCycle {X} Step = (x : X) → ¬ (Leads Step x x)

-- the rows of a table of the code as lists
abbrev pub rows_of : {A X : Type 0} → Vec (Vec X A) A → List (List X)
rows_of {A} {X} t = map (λ (row : Vec X A). row.items) t.items

-- a graph of the code as lists
abbrev pub plain_graph : {A : Type 0} → Vec (Vec ℕ A) A → List (List ℕ)
plain_graph g = rows_of g

-- an edge leads from a to b
abbrev pub HasEdge : List (List ℕ) → ℕ → ℕ → Type 0
HasEdge graph a b = IsIn (get_or graph a []) b

-- each edge leads to a vertex below the count
abbrev pub AreEdgesBelow : List (List ℕ) → ℕ → Type 0
AreEdgesBelow graph count = (a b : ℕ) → HasEdge graph a b → b < count

-- each that stands in the order is a vertex, and its neighbors stand before it
abbrev pub IsOrder : List (List ℕ) → List ℕ → Type 0
IsOrder graph order = (k : ℕ) → k < length order → (get_or order k 0 < length graph) × ((b : ℕ) → HasEdge graph (get_or order k 0) b → IsIn (take k order) b)

abbrev pub IsMarked : List Bool → ℕ → Type 0
IsMarked row v = get_or row v false ≡ true

abbrev pub AreMarked : List Bool → List ℕ → Type 0
AreMarked row vs = (v : ℕ) → IsIn vs v → IsMarked row v

-- each that is marked stands in the order
abbrev pub IsPlacedIn : List Bool → List ℕ → Type 0
IsPlacedIn row order = (v : ℕ) → IsMarked row v → IsIn order v

-- a way: from each vertex of it an edge leads to the next
abbrev pub IsWay : List (List ℕ) → List ℕ → Type 0
IsWay graph way = (k : ℕ) → k + 1 < length way → HasEdge graph (get_or way k 0) (get_or way (k + 1) 0)

-- A walk that places vertices: those of the order are marked, and no others; of each vertex so many neighbors were looked at, which
-- are placed; those on the way wait for the next one to be placed.
pub record IsWalk (graph : List (List ℕ)) (row : List Bool) (looked way so_far : List ℕ) : Type 0 where
  pub order : IsOrder graph so_far
  pub distinct : AreDistinct so_far
  pub placed : IsPlacedIn row so_far
  pub marked : (v : ℕ) → IsIn so_far v → IsMarked row v
  pub marks : length row ≡ length graph
  pub counts : length looked ≡ length graph
  pub seen : (v k : ℕ) → k < get_or looked v 0 → IsMarked row (get_or (get_or graph v []) k 0)
  pub within : (v : ℕ) → get_or looked v 0 ≤ length (get_or graph v [])
  pub below : (v : ℕ) → IsIn way v → v < length graph
  pub waits : (v : ℕ) → IsIn way v → get_or row v false ≡ false
  pub edges : IsWay graph way

-- how many are not marked
abbrev pub waiting : List Bool → ℕ
waiting [] = 0
waiting (true ∷ row) = waiting row
waiting (false ∷ row) = suc (waiting row)

-- how many steps a walk has still to take at most
abbrev pub steps_left : List (List ℕ) → List Bool → List ℕ → ℕ
steps_left graph placed way = waiting placed * (length graph + 2) + (length graph + 1 - length way)

-- From a vertex its direct ones are reached, and what its neighbors reach.
pub data Reaches (direct graph : List (List ℕ)) : ℕ → ℕ → Type 0 where
  here : {a x : ℕ} → IsIn (get_or direct a []) x → Reaches direct graph a x
  through : {a b x : ℕ} → HasEdge graph a b → Reaches direct graph b x → Reaches direct graph a x
