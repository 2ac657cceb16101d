use Rattle.std.proofs.Common.{◌+◌, ◌*◌, map}
use Rattle.p21_express.specs.Schema.{Expr}
use Rattle.p21_tree.specs.Plain.{plain, plain_all}
use Rattle.p21_rules.specs.Elements.{AreElements}
use Rattle.p21_rules.proofs.PushLemmas.{AreCoded, AreUnderway}
use Rattle.p21_rules.proofs.Sizes.{tree_size, trees_size}
use Rattle.p21_rules.proofs.value.+values.Given as goal

-- after the values of the elements so far those of the others make the values of all
abbrev pub invariant-push_ordered-loop-param : goal.invariant-push_ordered-loop-param
invariant-push_ordered-loop-param l = (e : Expr) → AreElements l.schema e l.elements → AreUnderway l.schema e l.params l.param-index l.initial.code.items l.code.items

-- the same of the codes of values
abbrev pub invariant-push_unordered-loop-param : goal.invariant-push_unordered-loop-param
invariant-push_unordered-loop-param l = (e : Expr) → AreElements l.schema e l.elements → AreCoded l.schema e l.params l.param-index (map (λ c. c.items) l.codes.items)

abbrev pub decreases-push_value : goal.decreases-push_value
decreases-push_value l = 4 * tree_size (plain l.param.now)

abbrev pub decreases-push_list : goal.decreases-push_list
decreases-push_list l = 4 * trees_size (plain_all l.params.now) + 2

abbrev pub decreases-push_ordered : goal.decreases-push_ordered
decreases-push_ordered l = 4 * trees_size (plain_all l.params.now) + 1

abbrev pub decreases-push_unordered : goal.decreases-push_unordered
decreases-push_unordered l = 4 * trees_size (plain_all l.params.now) + 1
