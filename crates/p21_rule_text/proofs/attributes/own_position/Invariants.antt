use Rattle.std.proofs.Common.{◌≡◌, ◌≤◌, drop}
use Rattle.p21_express.specs.WellFormed.{IsIn}
use Rattle.p21_rule_text.proofs.ResolveLemmas.{NewFrom}
use Rattle.p21_rule_text.proofs.attributes.own_position.Given as goal

abbrev pub invariant-loop-attribute : goal.invariant-loop-attribute
invariant-loop-attribute l =
    let xs = l.declared.attributes.items in
    record {
      from : drop l.position (NewFrom xs 0) ≡ NewFrom xs l.attribute-index;
      few : l.position ≤ l.attribute-index;
      behind : IsIn (NewFrom xs 0) l.name → IsIn (NewFrom xs l.attribute-index) l.name;
    }
