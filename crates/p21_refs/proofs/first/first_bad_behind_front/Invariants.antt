use Rattle.std.proofs.Common.{◌-◌, ◌<◌, ◌≤◌}
use Rattle.p21_join.specs.Model.{instances_of, plain_instances}
use Rattle.p21_refs.specs.Places.{AreAnsweredBefore}
use Rattle.p21_refs.proofs.first.first_bad_behind_front.Given as goal

-- the instances before this stride are answered
abbrev pub invariant-loop-from : goal.invariant-loop-from
invariant-loop-from g l = (l.from ≤ l.len) × (0 < l.len → 0 < l.from) × AreAnsweredBefore l.schema (plain_instances (instances_of l.model)) l.from

abbrev pub decreases-loop-from : goal.decreases-loop-from
decreases-loop-from g l = l.len - l.from
