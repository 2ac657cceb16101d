use Rattle.std.proofs.Common.{◌≡◌, map, take}
use Rattle.p21_graph.specs.Graph.{plain_graph, rows_of}
use Rattle.p21_schema.specs.Ancestry.{entity_id}
use Rattle.p21_schema.proofs.ancestry.supertype_ids.Given as goal

abbrev pub invariant-loop-places : goal.invariant-loop-places
invariant-loop-places l = rows_of l.table ≡ map (map entity_id) (take l.places-index (plain_graph l.graph))
