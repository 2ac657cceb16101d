use Rattle.std.proofs.Common.{map, take}
use Rattle.std.specs.List.{AllByRecursion}
use Rattle.p21_express.specs.Plain.{plain_schema, plain_type}
use Rattle.p21_express.specs.Index.{IsExactIndex}
use Rattle.p21_express.specs.Checks.{Finds, HasNoSelectUnder}
use Rattle.p21_express.proofs.checks.unknown.lone_selects.Given as goal

abbrev pub invariant-loop-i : goal.invariant-loop-i
invariant-loop-i l = IsExactIndex (plain_schema l.checked.declarations.now) l.index → Finds l.fn.first.found l.first.found (AllByRecursion (HasNoSelectUnder (plain_schema l.checked.declarations.now)) (map plain_type (take l.i l.checked.declarations.now.types.items)))
