use Rattle.std.proofs.Common.{◌+◌, ◌-◌, ◌*◌, ◌≤◌, length}
use Rattle.std.specs.declared.alloc.Global.{Global}
use Rattle.p21_express.specs.Schema.{Expr}
use Rattle.p21_check.specs.Known.{IsExpr}
use Rattle.p21_check.specs.Passed.{WalksElements}
use Rattle.p21_check.proofs.walk_value.+walk_value.Given as goal

-- the elements up to this place were passed
abbrev pub invariant-walk_list-elements : goal.invariant-walk_list-elements
invariant-walk_list-elements l = record {
  within : l.place ≤ length l.text;
  counts : l.written + l.at ≤ l.place;
  few : l.count ≤ l.place + 1;
  walks : (g : Global) (e : Expr) → IsExpr l.schema l.item e → WalksElements l.schema l.optional e l.of_elements l.room l.text l.at l.count l.fn.into.items l.into.items (record { after = l.place; written = l.written });
}

abbrev pub decreases-walk_list-elements : goal.decreases-walk_list-elements
decreases-walk_list-elements l = length l.text - l.place

abbrev pub decreases-walk_value : goal.decreases-walk_value
decreases-walk_value l = 2 * l.left + 1

abbrev pub decreases-walk_list : goal.decreases-walk_list
decreases-walk_list l = 2 * l.left
