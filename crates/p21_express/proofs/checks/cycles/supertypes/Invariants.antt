use Rattle.std.proofs.Common.{map, take}
use Rattle.std.specs.List.{AllZip}
use Rattle.p21_express.specs.Graph.{lists}
use Rattle.p21_express.specs.Index.{IsEntityAt}
use Rattle.p21_express.specs.Plain.{plain_entity, plain_schema}
use Rattle.p21_express.specs.Positions.{ArePositions}
use Rattle.p21_express.proofs.checks.cycles.supertypes.Given as goal

abbrev pub invariant-loop-entity : goal.invariant-loop-entity
invariant-loop-entity l = AllZip (λ e edges. ArePositions (IsEntityAt (plain_schema l.checked.declarations.now)) e.supertypes edges) (map plain_entity (take l.entity-index l.checked.declarations.now.entities.items)) (lists l.graph.items)
