use Rattle.std.proofs.Common.{◌↔◌, drop}
use Rattle.p21_tree.specs.Plain.{plain_all}
use Rattle.p21_check.specs.Lists.{RepeatsAmongBy}
use Rattle.p21_check.proofs.repeats.+repeats.Given as goal

abbrev pub decreases-repeats : goal.decreases-repeats
decreases-repeats l = goal.size-repeats l

-- some element repeats a name where one of those that are left does
abbrev pub invariant-loop-element : goal.invariant-loop-element
invariant-loop-element l = RepeatsAmongBy l.schema l.inner (plain_all (drop l.element-index l.element-items)) ↔ RepeatsAmongBy l.schema l.inner (plain_all l.element-items)
