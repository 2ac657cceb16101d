use Rattle.std.proofs.Common.{drop}
use Rattle.std.specs.Prelude.{Result}
use Rattle.p21_tree.specs.Plain.{plain_all}
use Rattle.p21_check.specs.declared.walk.FirstBad.{FirstBad}
use Rattle.p21_check.specs.Wanted.{AsksAmong}
use Rattle.p21_check.specs.Walk.{FindsBad}
use Rattle.p21_check.proofs.walk.+walk.Given as goal

abbrev pub decreases-walk : goal.decreases-walk
decreases-walk g l = goal.size-walk g l

-- what is found in the elements that are left is found in all
abbrev pub invariant-loop-item : goal.invariant-loop-item
invariant-loop-item g l =
    (found : Result (Unit {0}) FirstBad) →
    FindsBad l.schema (g.J.NameJudge.named l.judge) (AsksAmong l.schema l.of_first (plain_all (drop l.item-index l.item-items))) (AsksAmong l.schema l.of_second (plain_all (drop l.item-index l.item-items))) found →
    FindsBad l.schema (g.J.NameJudge.named l.judge) (AsksAmong l.schema l.of_first (plain_all l.item-items)) (AsksAmong l.schema l.of_second (plain_all l.item-items)) found
