use Rattle.std.proofs.Common.{◌≡◌, length, take}
use Rattle.p21_graph.specs.Graph.{plain_graph}
use Rattle.p21_graph.specs.Reach.{IsWithin}
use Rattle.p21_graph.proofs.ReachLemmas.{AreWritten}
use Rattle.p21_graph.proofs.reach.reached_with_itself.Given as goal

abbrev pub invariant-loop-vertex : goal.invariant-loop-vertex
invariant-loop-vertex l = record {
  rows : l.table.rows ≡ length (plain_graph l.graph);
  columns : l.table.columns ≡ length (plain_graph l.graph);
  written : AreWritten (IsWithin (plain_graph l.graph)) (take l.vertex-index l.order) l.table;
}
