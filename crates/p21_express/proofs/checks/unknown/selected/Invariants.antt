use Rattle.std.proofs.Common.{take, ◌⊎◌}
use Rattle.std.specs.List.{AllByRecursion}
use Rattle.p21_express.specs.Schema.{Schema}
use Rattle.p21_express.specs.WellFormed.{IsEntity, IsType}
use Rattle.p21_express.specs.Naming.{texts}
use Rattle.p21_express.specs.Index.{IsExactIndex}
use Rattle.p21_express.specs.Checks.{Finds}
use Rattle.p21_express.proofs.checks.unknown.selected.Given as goal

abbrev pub invariant-loop-i : goal.invariant-loop-i
invariant-loop-i l = (s : Schema) → IsExactIndex s l.index → Finds l.fn.first.found l.first.found (AllByRecursion (λ n. IsEntity s n ⊎ IsType s n) (texts (take l.i l.names)))
