use Rattle.std.proofs.Common.{map, take}
use Rattle.std.specs.List.{AllByRecursion}
use Rattle.p21_express.specs.WellFormed.{HasDistinctItems}
use Rattle.p21_express.specs.Plain.{plain_type}
use Rattle.p21_express.specs.Checks.{Finds}
use Rattle.p21_express.proofs.checks.repeated.types.Given as goal

abbrev pub invariant-loop-i : goal.invariant-loop-i
invariant-loop-i l = Finds l.fn.first.found l.first.found (AllByRecursion (λ t. HasDistinctItems t.under) (map plain_type (take l.i l.checked.declarations.now.types.items)))
