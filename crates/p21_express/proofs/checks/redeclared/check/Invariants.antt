use Rattle.std.proofs.Common.{map, take}
use Rattle.std.specs.List.{AllByRecursion}
use Rattle.p21_express.specs.Plain.{plain_schema, plain_entity}
use Rattle.p21_express.specs.WellFormed.{IsRedeclaring}
use Rattle.p21_express.proofs.checks.redeclared.check.Given as goal

abbrev pub invariant-loop-position : goal.invariant-loop-position
invariant-loop-position l = AllByRecursion (IsRedeclaring (plain_schema l.checked.declarations.now)) (map plain_entity (take l.position l.checked.declarations.now.entities.items))
