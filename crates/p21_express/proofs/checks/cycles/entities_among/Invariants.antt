use Rattle.std.proofs.Common.{take}
use Rattle.p21_express.specs.Index.{IsEntityAt, IsExactIndex}
use Rattle.p21_express.specs.Naming.{texts}
use Rattle.p21_express.specs.Positions.{ArePositions}
use Rattle.p21_express.specs.Schema.{Schema}
use Rattle.p21_express.proofs.checks.cycles.entities_among.Given as goal

abbrev pub invariant-loop-name : goal.invariant-loop-name
invariant-loop-name l = (s : Schema) → IsExactIndex s l.index → ArePositions (IsEntityAt s) (texts (take l.name-index l.names)) l.found.items
