use Rattle.std.proofs.Common.{map, take}
use Rattle.std.specs.List.{AllZip}
use Rattle.p21_express.specs.Graph.{lists}
use Rattle.p21_express.specs.Plain.{plain_type, plain_schema}
use Rattle.p21_express.specs.Positions.{AreTypesUnder}
use Rattle.p21_express.proofs.checks.cycles.types.Given as goal

abbrev pub invariant-loop-decl : goal.invariant-loop-decl
invariant-loop-decl l = AllZip (λ t edges. AreTypesUnder (plain_schema l.checked.declarations.now) t.under edges) (map plain_type (take l.decl-index l.checked.declarations.now.types.items)) (lists l.graph.items)
