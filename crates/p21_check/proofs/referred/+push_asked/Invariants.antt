use Rattle.std.proofs.Common.{List, drop}
use Rattle.p21_tree.specs.Plain.{plain_all}
use Rattle.p21_check.specs.declared.referred.Reference.{Reference}
use Rattle.p21_check.specs.Referred.{Adds, Somewhere}
use Rattle.p21_check.specs.Wanted.{AsksAmong}
use Rattle.p21_check.proofs.referred.+push_asked.Given as goal

abbrev pub decreases-push_asked : goal.decreases-push_asked
decreases-push_asked l = goal.size-push_asked l

-- with the references of the elements that are left, those of all are added
abbrev pub invariant-loop-item : goal.invariant-loop-item
invariant-loop-item l =
    (last : List Reference) →
    Adds l.schema (Somewhere (AsksAmong l.schema l.of_elements (plain_all (drop l.item-index l.item-items)))) l.into.items last →
    Adds l.schema (Somewhere (AsksAmong l.schema l.of_elements (plain_all l.item-items))) l.initial.into.items last
