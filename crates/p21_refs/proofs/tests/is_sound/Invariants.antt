use Rattle.std.proofs.Common.{ℕ, ◌<◌, None, get_or}
use Rattle.p21_tree.specs.Sentence.{Instance}
use Rattle.p21_check.specs.LocalFault.{IsLocalFault}
use Rattle.p21_join.specs.Model.{instances_of, plain_instances}
use Rattle.p21_refs.proofs.tests.is_sound.Given as goal

-- the instances before this one have no fault by themselves
abbrev pub invariant-loop-place : goal.invariant-loop-place
invariant-loop-place l = (k : ℕ) (d : Instance) → k < l.place → IsLocalFault l.schema (get_or (plain_instances (instances_of l.model)) k d) None
