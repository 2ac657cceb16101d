use Rattle.std.proofs.Common.{◌≡◌, length, take}
use Rattle.p21_graph.specs.Graph.{plain_graph, Reaches}
use Rattle.p21_graph.proofs.ReachLemmas.{AreWritten}
use Rattle.p21_graph.proofs.reach.reached.Given as goal

abbrev pub invariant-loop-vertex : goal.invariant-loop-vertex
invariant-loop-vertex l = record {
  rows : l.table.rows ≡ length (plain_graph l.graph);
  columns : l.table.columns ≡ l.columns;
  written : AreWritten (Reaches (plain_graph l.direct) (plain_graph l.graph)) (take l.vertex-index l.order) l.table;
}
