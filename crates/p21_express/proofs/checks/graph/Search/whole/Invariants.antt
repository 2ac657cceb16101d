use Rattle.std.proofs.Common.{◌≢◌, ◌<◌, ℕ}
use Rattle.p21_express.specs.declared.checks.graph.Mark.TheVariants as mark
use Rattle.p21_express.specs.Graph.{lists}
use Rattle.p21_express.specs.Search.{state_of, mark_of, IsAtRest}
use Rattle.p21_express.proofs.checks.graph.Search.whole.Given as goal

abbrev pub invariant-loop-vertex : goal.invariant-loop-vertex
invariant-loop-vertex l = IsAtRest (lists l.graph.items) (state_of l.search) × ((v : ℕ) → v < l.vertex → mark_of (state_of l.search) v ≢ mark.New)
