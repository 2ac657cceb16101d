use Rattle.std.proofs.Common.{ℕ, ◌<◌, ◌≤◌, get_or}
use Rattle.p21_graph.specs.Graph.{IsMarked}
use Rattle.p21_graph.proofs.graph.first_waiting.Given as goal

abbrev pub invariant-loop-place : goal.invariant-loop-place
invariant-loop-place l = (k : ℕ) → l.fn.from ≤ k → k < l.place → IsMarked l.placed (get_or l.vertices k 0)
