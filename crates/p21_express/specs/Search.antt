-- A search in depth over a graph, as plain values.
use Rattle.std.specs.Prelude.{◌≡◌, ◌≢◌, ℕ, ◌+◌, ◌-◌, ◌<◌, Bool, true, false, List, [], ◌∷◌, ◌++◌, ◌⊎◌, map, reverse, length, get_or, set, take, Option, Some, None, slice_get}
use Rattle.p21_express.specs.declared.checks.graph.Mark.{Mark}
use Rattle.p21_express.specs.declared.checks.graph.Mark.TheVariants as mark
use Rattle.p21_express.specs.declared.checks.graph.Search.{Search}
use Rattle.p21_express.specs.WellFormed.{IsIn, Leads}
use Rattle.p21_express.specs.Graph.{neighbors, HasEdge}

-- of the way and of the finished vertices the last stands first
pub record State : Type 0 where
  pub marks : List Mark
  pub way : List (ℕ × ℕ)
  pub finished : List ℕ
  pub is_cyclic : Bool

abbrev pub state_of : Search → State
state_of s = record { marks = s.marks.items; way = reverse s.way.items; finished = reverse s.finished.items; is_cyclic = s.is_cyclic }

-- ---- steps

-- a new vertex goes on the way
abbrev pub enter : ℕ → State → State
enter v s = record { marks = set s.marks v mark.OnWay; way = (v, 0) ∷ s.way; finished = s.finished; is_cyclic = s.is_cyclic }

-- a vertex is met that has this mark
abbrev pub meet : Option Mark → ℕ → State → State
meet (Some mark.New) v s = enter v s
meet (Some mark.OnWay) v s = record { marks = s.marks; way = s.way; finished = s.finished; is_cyclic = true }
meet (Some mark.Finished) v s = s
meet None v s = s

-- an edge is taken from v, which was the last on the way
abbrev pub follow : ℕ → ℕ → ℕ → State → State
follow v taken to s = meet (slice_get s.marks to) to (record { marks = s.marks; way = (v, taken + 1) ∷ s.way; finished = s.finished; is_cyclic = s.is_cyclic })

-- all edges of v were taken, which was the last on the way
abbrev pub finish : ℕ → State → State
finish v s = record { marks = set s.marks v mark.Finished; way = s.way; finished = v ∷ s.finished; is_cyclic = s.is_cyclic }

abbrev pub step_by : Option ℕ → ℕ → ℕ → State → State
step_by (Some to) v taken s = follow v taken to s
step_by None v taken s = finish v s

-- a step from v, which was the last on the way
abbrev pub step : List (List ℕ) → ℕ → ℕ → State → State
step g v taken s = step_by (slice_get (neighbors g v) taken) v taken s

-- ---- what holds between the steps

-- a vertex without a mark is as new
abbrev pub mark_of : State → ℕ → Mark
mark_of s v = get_or s.marks v mark.New

-- the edges of v that were taken lead to what is finished, or on along the way
abbrev pub AreTaken : List (List ℕ) → List ℕ → ℕ → ℕ → ℕ → Type 0
AreTaken g finished v taken next = (w : ℕ) → w < length g → IsIn (take taken (neighbors g v)) w → IsIn finished w ⊎ (w ≡ next)

-- each vertex has an edge to the one before it on the list, the first one to `next`
abbrev pub IsWay : List (List ℕ) → Bool → List ℕ → ℕ → List (ℕ × ℕ) → Type 0
IsWay g is_cyclic finished next [] = Unit {0}
IsWay g is_cyclic finished next (p ∷ ps) = HasEdge g p.0 next × (is_cyclic ≡ false → AreTaken g finished p.0 p.1 next) × IsWay g is_cyclic finished p.0 ps

abbrev pub IsWholeWay : List (List ℕ) → Bool → List ℕ → List (ℕ × ℕ) → Type 0
IsWholeWay g is_cyclic finished [] = Unit {0}
IsWholeWay g is_cyclic finished (p ∷ ps) = (is_cyclic ≡ false → (w : ℕ) → w < length g → IsIn (take p.1 (neighbors g p.0)) w → IsIn finished w) × IsWay g is_cyclic finished p.0 ps

-- the edges of each vertex lead to later ones of the list
abbrev pub AreBehind : List (List ℕ) → List ℕ → Type 0
AreBehind g [] = Unit {0}
AreBehind g (v ∷ vs) = ((w : ℕ) → HasEdge g v w → IsIn vs w) × AreBehind g vs

abbrev pub vertices_of : List (ℕ × ℕ) → List ℕ
vertices_of way = map (λ p. p.0) way

-- what a search knows
pub record IsSearch (g : List (List ℕ)) (s : State) : Type 0 where
  pub all : length s.marks ≡ length g
  pub within : (v : ℕ) → IsIn (vertices_of s.way) v → v < length g
  pub on_way : (v : ℕ) → mark_of s v ≡ mark.OnWay → IsIn (vertices_of s.way) v
  pub finished : (v : ℕ) → mark_of s v ≡ mark.Finished → IsIn s.finished v
  pub way : IsWholeWay g s.is_cyclic s.finished s.way
  pub behind : s.is_cyclic ≡ false → AreBehind g s.finished
  pub cyclic : s.is_cyclic ≡ true → (v : ℕ) × Leads (HasEdge g) v v

-- a is b, or leads to it
abbrev pub Reaches : List (List ℕ) → ℕ → ℕ → Type 0
Reaches g a b = (a ≡ b) ⊎ Leads (HasEdge g) a b

-- a search from a vertex, which began at one state and came to the other
pub record IsSearchFrom (g : List (List ℕ)) (start : ℕ) (old s : State) : Type 0 where
  pub search : IsSearch g s
  pub newly : List ℕ
  pub finished_is : s.finished ≡ newly ++ old.finished
  pub reached : (v : ℕ) → IsIn newly v → Reaches g start v
  pub on_way : (v : ℕ) → IsIn (vertices_of s.way) v → Reaches g start v
  pub marked : start < length g → mark_of s start ≢ mark.New
  pub stays : (v : ℕ) → mark_of old v ≢ mark.New → mark_of s v ≢ mark.New

-- a search with nothing on its way
pub record IsAtRest (g : List (List ℕ)) (s : State) : Type 0 where
  pub search : IsSearch g s
  pub ended : s.way ≡ []

-- a search from a vertex, which came to its end
pub record IsAtEnd (g : List (List ℕ)) (start : ℕ) (old s : State) : Type 0 where
  pub search : IsSearchFrom g start old s
  pub ended : s.way ≡ []

-- a search that met nothing yet
pub record IsBlank (g : List (List ℕ)) (s : State) : Type 0 where
  pub all : length s.marks ≡ length g
  pub marks : (v : ℕ) → mark_of s v ≡ mark.New
  pub way : s.way ≡ []
  pub finished : s.finished ≡ []
  pub acyclic : s.is_cyclic ≡ false

-- a search that finished all vertices
pub record IsWhole (g : List (List ℕ)) (s : State) : Type 0 where
  pub search : IsSearch g s
  pub finished : (v : ℕ) → v < length g → IsIn s.finished v

-- ---- the steps that are left

-- the edges of new vertices, and their ends
abbrev pub new_left : List Mark → List (List ℕ) → ℕ
new_left [] g = 0
new_left (mark.New ∷ ms) [] = 1 + new_left ms []
new_left (mark.New ∷ ms) (ns ∷ g) = (1 + length ns) + new_left ms g
new_left (mark.OnWay ∷ ms) [] = new_left ms []
new_left (mark.OnWay ∷ ms) (ns ∷ g) = new_left ms g
new_left (mark.Finished ∷ ms) [] = new_left ms []
new_left (mark.Finished ∷ ms) (ns ∷ g) = new_left ms g

-- the edges of the vertices on the way that were not taken, and their ends
abbrev pub way_left : List (List ℕ) → List (ℕ × ℕ) → ℕ
way_left g [] = 0
way_left g (p ∷ ps) = ((length (neighbors g p.0) - p.1) + 1) + way_left g ps

abbrev pub steps_left : List (List ℕ) → State → ℕ
steps_left g s = new_left s.marks g + way_left g s.way
