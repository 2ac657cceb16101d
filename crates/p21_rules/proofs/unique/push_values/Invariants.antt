use Rattle.std.proofs.Common.{◌≡◌, ◌++◌, List, take, map}
use Rattle.p21_tree.specs.Views.{plain_instance}
use Rattle.p21_schema.specs.Row.{attribute_at}
use Rattle.p21_rules.specs.Code.{values_code}
use Rattle.p21_rules.specs.Parameter.{HasValues}
use Rattle.p21_rules.specs.Value.{Value}
use Rattle.p21_rules.proofs.unique.push_values.Given as goal

-- the values of the attributes so far were added
abbrev pub invariant-loop-attribute : goal.invariant-loop-attribute
invariant-loop-attribute l = (vs : List Value) × HasValues l.schema (plain_instance l.instance) (map (attribute_at l.schema) (take l.attribute-index l.attributes)) vs × (l.code.items ≡ l.initial.code.items ++ values_code vs)
