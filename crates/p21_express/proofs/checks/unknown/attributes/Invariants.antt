use Rattle.std.proofs.Common.{map, take}
use Rattle.std.specs.List.{AllByRecursion}
use Rattle.p21_express.specs.Schema.{Schema}
use Rattle.p21_express.specs.WellFormed.{IsKnown}
use Rattle.p21_express.specs.Plain.{plain_attribute}
use Rattle.p21_express.specs.Index.{IsExactIndex}
use Rattle.p21_express.specs.Checks.{Finds}
use Rattle.p21_express.proofs.checks.unknown.attributes.Given as goal

abbrev pub invariant-loop-i : goal.invariant-loop-i
invariant-loop-i l = (s : Schema) → IsExactIndex s l.index → Finds l.fn.first.found l.first.found (AllByRecursion (λ a. IsKnown s a.texpr) (map plain_attribute (take l.i l.attributes)))
