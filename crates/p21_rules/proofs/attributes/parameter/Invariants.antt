use Rattle.std.proofs.Common.{drop, map}
use Rattle.p21_tree.specs.Tree.{Tree}
use Rattle.p21_tree.specs.Views.{plain_record}
use Rattle.p21_schema.specs.Row.{attribute_at}
use Rattle.p21_rules.specs.Parameter.{IsParameterIn}
use Rattle.p21_rules.proofs.attributes.parameter.Given as goal

-- the parameter is in those records that are left
abbrev pub invariant-loop-place : goal.invariant-loop-place
invariant-loop-place l =
    record {
      down : (t : Tree) → IsParameterIn l.schema l.instance.complex (attribute_at l.schema l.attribute) (map plain_record l.records) t → IsParameterIn l.schema l.instance.complex (attribute_at l.schema l.attribute) (map plain_record (drop l.place l.records)) t;
      up : (t : Tree) → IsParameterIn l.schema l.instance.complex (attribute_at l.schema l.attribute) (map plain_record (drop l.place l.records)) t → IsParameterIn l.schema l.instance.complex (attribute_at l.schema l.attribute) (map plain_record l.records) t;
    }
