use Rattle.std.proofs.Common.{◌≡◌, ◌≤◌, length, take}
use Rattle.p21_express.specs.Plain.{plain_entity}
use Rattle.p21_express.specs.WellFormed.{IsIn, new_explicit}
use Rattle.p21_schema.proofs.declarations.own_position.Given as goal

abbrev pub invariant-loop-attribute : goal.invariant-loop-attribute
invariant-loop-attribute l = record {
  position : l.position ≡ length (new_explicit (take l.attribute-index (plain_entity l.entity).attributes));
  few : l.position ≤ l.attribute-index;
  absent : ¬ (IsIn (new_explicit (take l.attribute-index (plain_entity l.entity).attributes)) l.name);
}
