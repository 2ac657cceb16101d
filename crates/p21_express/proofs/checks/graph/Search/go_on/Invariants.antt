use Rattle.std.proofs.Common.{ℕ}
use Rattle.p21_express.specs.Graph.{lists}
use Rattle.p21_express.specs.Search.{State, state_of, IsSearchFrom, steps_left}
use Rattle.p21_express.proofs.checks.graph.Search.go_on.Given as goal

abbrev pub invariant-loop-vertex : goal.invariant-loop-vertex
invariant-loop-vertex l = (start : ℕ) (first : State) → IsSearchFrom (lists l.graph.items) start first (state_of l.initial.self) → IsSearchFrom (lists l.graph.items) start first (state_of l.self)

abbrev pub decreases-loop-vertex : goal.decreases-loop-vertex
decreases-loop-vertex l = steps_left (lists l.graph.items) (state_of l.self)
