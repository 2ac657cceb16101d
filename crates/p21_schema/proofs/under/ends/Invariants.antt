use Rattle.std.proofs.Common.{◌≡◌, ℕ, length, map, take, get_or}
use Rattle.p21_express.specs.Schema.{Schema}
use Rattle.p21_express.specs.WellFormed.{IsIn}
use Rattle.p21_graph.specs.Graph.{plain_graph}
use Rattle.p21_schema.specs.Under.{AreOthers, IsEnd}
use Rattle.p21_schema.proofs.under.ends.Given as goal

abbrev pub invariant-loop : goal.invariant-loop
invariant-loop l = length l.ends.items ≡ l.counter

abbrev pub invariant-loop-vertex : goal.invariant-loop-vertex
invariant-loop-vertex l = record {
  count : length l.ends.items ≡ length (plain_graph l.graph);
  rows : (s : Schema) → AreOthers (map (λ t. t.name) s.types) (plain_graph l.graph) s.types → (v : ℕ) → IsIn (take l.vertex-index l.order) v → IsEnd s v (get_or l.ends.items v 0);
}
