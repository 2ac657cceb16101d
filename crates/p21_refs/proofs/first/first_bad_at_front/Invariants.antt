use Rattle.p21_join.specs.Model.{instances_of, plain_instances}
use Rattle.p21_refs.specs.Places.{AreAnsweredBefore}
use Rattle.p21_refs.proofs.first.first_bad_at_front.Given as goal

-- the instances before this one are answered
abbrev pub invariant-loop-place : goal.invariant-loop-place
invariant-loop-place l = AreAnsweredBefore l.schema (plain_instances (instances_of l.model)) l.place
