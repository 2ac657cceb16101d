use Rattle.std.proofs.Common.{take}
use Rattle.std.specs.List.{AllByRecursion}
use Rattle.p21_express.specs.Schema.{Schema}
use Rattle.p21_express.specs.WellFormed.{IsEntity}
use Rattle.p21_express.specs.Naming.{texts}
use Rattle.p21_express.specs.Index.{IsExactIndex}
use Rattle.p21_express.specs.Checks.{Finds}
use Rattle.p21_express.proofs.checks.unknown.supertypes.Given as goal

abbrev pub invariant-loop-i : goal.invariant-loop-i
invariant-loop-i l = (s : Schema) → IsExactIndex s l.index → Finds l.fn.first.found l.first.found (AllByRecursion (IsEntity s) (texts (take l.i l.names)))
