use Rattle.std.proofs.Common.{map, take}
use Rattle.p21_express.specs.Plain.{plain_entity}
use Rattle.p21_graph.specs.Graph.{plain_graph}
use Rattle.p21_schema.specs.Ancestry.{AreSupertypesNamed}
use Rattle.p21_schema.proofs.ancestry.supertypes.Given as goal

abbrev pub invariant-loop-entity : goal.invariant-loop-entity
invariant-loop-entity l = AreSupertypesNamed l.names (plain_graph l.graph) (take l.entity-index (map plain_entity l.entities))
