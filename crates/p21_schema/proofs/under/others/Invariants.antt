use Rattle.std.proofs.Common.{map, take}
use Rattle.p21_express.specs.Plain.{plain_type}
use Rattle.p21_graph.specs.Graph.{plain_graph}
use Rattle.p21_schema.specs.Under.{AreOthers}
use Rattle.p21_schema.proofs.under.others.Given as goal

abbrev pub invariant-loop-decl : goal.invariant-loop-decl
invariant-loop-decl l = AreOthers l.types (plain_graph l.graph) (take l.decl-index (map plain_type l.decls))
