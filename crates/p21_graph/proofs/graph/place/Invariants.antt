use Rattle.std.proofs.Common.{ℕ, ◌⊎◌}
use Rattle.p21_graph.specs.Members.{IsIn}
use Rattle.p21_graph.specs.Graph.{plain_graph, IsWalk, IsMarked, steps_left}
use Rattle.p21_graph.proofs.graph.place.Given as goal

abbrev pub invariant-loop-placed : goal.invariant-loop-placed
invariant-loop-placed l = record {
  walk : IsWalk (plain_graph l.graph) l.placed l.looked l.way.items l.order.items;
  start : IsMarked l.placed l.start ⊎ IsIn l.way.items l.start;
  grows : (v : ℕ) → IsMarked l.fn.placed v → IsMarked l.placed v;
}

abbrev pub decreases-loop-placed : goal.decreases-loop-placed
decreases-loop-placed l = steps_left (plain_graph l.graph) l.placed l.way.items
