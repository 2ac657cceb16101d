use Rattle.std.proofs.Common.{◌+◌, ◌*◌, ◌↔◌, IsTrue, drop}
use Rattle.p21_tree.specs.Plain.{plain, plain_all}
use Rattle.p21_json.specs.Where.{Where, IsLogicalAt}
use Rattle.p21_json.specs.Parts.{values_parts}
use Rattle.p21_json.proofs.PlainLemmas.{tree_size, trees_size}
use Rattle.p21_json.proofs.WrittenLemmas.{Underway}
use Rattle.p21_json.proofs.line.Line.+values.Given as goal

abbrev pub invariant-list-loop-param : goal.invariant-list-loop-param
invariant-list-loop-param l =
    (w : Where) → (IsTrue l.logical ↔ IsLogicalAt l.terms w) → Underway l.terms l.initial.self.out l.self.out (values_parts w (plain_all l.params)) (values_parts w (plain_all (drop l.param-index l.params)))

abbrev pub decreases-value : goal.decreases-value
decreases-value l = 2 * tree_size (plain l.param.now)

abbrev pub decreases-list : goal.decreases-list
decreases-list l = 2 * trees_size (plain_all l.params.now) + 1

abbrev pub decreases-typed : goal.decreases-typed
decreases-typed l = 2 * tree_size (plain l.inner.now) + 1
