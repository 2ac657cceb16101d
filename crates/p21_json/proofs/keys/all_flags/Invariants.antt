use Rattle.std.proofs.Common.{◌≡◌, [], get_or, length}
use Rattle.p21_graph.specs.Graph.{rows_of}
use Rattle.p21_schema.specs.declared.ids.EntityId.{EntityId}
use Rattle.p21_json.specs.Keys.{AreFlags}
use Rattle.p21_json.proofs.keys.all_flags.Given as goal

abbrev pub invariant-loop-place : goal.invariant-loop-place
invariant-loop-place l = (length l.flags.items ≡ l.place) × ((e : EntityId) → AreFlags l.schema e (get_or (rows_of l.flags) e.index []))
