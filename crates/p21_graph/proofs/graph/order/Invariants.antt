use Rattle.std.proofs.Common.{◌≡◌, ◌<◌, ℕ, []}
use Rattle.p21_graph.specs.Graph.{plain_graph, IsWalk, IsMarked}
use Rattle.p21_graph.proofs.graph.order.Given as goal

abbrev pub invariant-loop-vertex : goal.invariant-loop-vertex
invariant-loop-vertex l = record {
  way : l.way.items ≡ [];
  walk : IsWalk (plain_graph l.graph) l.placed.items l.looked.items [] l.order.items;
  all : (v : ℕ) → v < l.vertex → IsMarked l.placed.items v;
}
