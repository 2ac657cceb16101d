use Rattle.std.proofs.Common.{◌≡◌, ◌<◌, ℕ, [], length, take, get_or, replicate}
use Rattle.p21_express.specs.Plain.{plain_schema}
use Rattle.p21_graph.specs.Graph.{rows_of}
use Rattle.p21_schema.specs.Row.{attributes_of}
use Rattle.p21_schema.specs.RowTable.{IsOwn}
use Rattle.p21_schema.specs.RowTable.{no_own}
use Rattle.p21_schema.proofs.rows.own_attributes.Given as goal

abbrev pub invariant-loop-entity : goal.invariant-loop-entity
invariant-loop-entity l = record {
  lists : rows_of l.lists ≡ replicate (length (attributes_of (take l.entity-index (plain_schema l.declarations).entities))) [];
  count : length l.table.items ≡ l.entity-index;
  rows : (i : ℕ) → i < l.entity-index → IsOwn (plain_schema l.declarations) i (get_or l.table.items i no_own);
}
