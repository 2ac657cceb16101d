use Rattle.std.proofs.Common.{map, take}
use Rattle.std.specs.List.{AllByRecursion}
use Rattle.p21_express.specs.Plain.{plain_schema, plain_entity}
use Rattle.p21_express.specs.WellFormed.{IsRedeclaring}
use Rattle.p21_express.proofs.checks.redeclared.any_declares_again.Given as goal

abbrev pub invariant-loop-entity : goal.invariant-loop-entity
invariant-loop-entity l = AllByRecursion (IsRedeclaring (plain_schema l.declarations)) (map plain_entity (take l.entity-index l.declarations.entities.items))
