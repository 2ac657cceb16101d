use Rattle.std.proofs.Common.{◌≡◌, ◌<◌, ℕ, [], length, get_or}
use Rattle.p21_graph.specs.Graph.{plain_graph}
use Rattle.p21_schema.specs.declared.resolved.Resolved.{Resolved}
use Rattle.p21_schema.specs.SelectItems.{IsItemRow, targets_of}
use Rattle.p21_schema.proofs.selects.item_graph.Given as goal

abbrev pub invariant-loop-under : goal.invariant-loop-under
invariant-loop-under l = record {
  count : length (plain_graph l.graph) ≡ l.under-index;
  rows : (i : ℕ) (d : Resolved) → i < l.under-index → IsItemRow l.unders l.wanted (targets_of (get_or l.unders i d)) (get_or (plain_graph l.graph) i []);
}
