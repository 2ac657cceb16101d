use Rattle.std.proofs.Common.{◌↔◌, ◌+◌, ◌*◌, drop, map}
use Rattle.p21_express.specs.Schema.{Expr}
use Rattle.p21_tree.specs.Plain.{plain, plain_all}
use Rattle.p21_check.specs.Conforms.{AreElements}
use Rattle.p21_check.specs.Known.{IsExpr}
use Rattle.p21_schema.specs.Resolved.{resolved_expr}
use Rattle.p21_check.proofs.Sizes.{tree_size, trees_size, rank}
use Rattle.p21_check.proofs.conform.+conform.Given as goal

-- all elements conform where those that are left do
abbrev pub invariant-are_elements-loop-element : goal.invariant-are_elements-loop-element
invariant-are_elements-loop-element l = (e : Expr) → IsExpr l.schema l.item e → AreElements l.schema l.optional e (plain_all (drop l.element-index l.elements)) ↔ AreElements l.schema l.optional e (plain_all l.elements)

abbrev pub decreases-conforms : goal.decreases-conforms
decreases-conforms l = 8 * tree_size (plain l.param.now) + rank (resolved_expr (map (λ e. e.name) l.schema.now.entities) (map (λ t. t.name) l.schema.now.types) l.texpr.now)

abbrev pub decreases-is_defined : goal.decreases-is_defined
decreases-is_defined l = 8 * tree_size (plain l.param.now) + 2

abbrev pub decreases-is_selected : goal.decreases-is_selected
decreases-is_selected l = 8 * tree_size (plain l.param.now) + 1

abbrev pub decreases-is_array : goal.decreases-is_array
decreases-is_array l = 8 * tree_size (plain l.param.now)

abbrev pub decreases-is_collection : goal.decreases-is_collection
decreases-is_collection l = 8 * tree_size (plain l.param.now)

abbrev pub decreases-are_elements : goal.decreases-are_elements
decreases-are_elements l = 8 * trees_size (plain_all l.elements.now) + 1

abbrev pub decreases-is_element : goal.decreases-is_element
decreases-is_element l = 8 * tree_size (plain l.element.now) + 5

abbrev pub decreases-is_named : goal.decreases-is_named
decreases-is_named l = 8 * tree_size (plain l.param.now) + 3
