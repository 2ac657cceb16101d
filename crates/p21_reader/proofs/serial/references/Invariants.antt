use Rattle.std.proofs.Common.{ℕ, ◌<◌, None, get_or}
use Rattle.p21_tree.specs.Sentence.{Instance}
use Rattle.p21_check.specs.References.{IsReferenceFault, named_in}
use Rattle.p21_join.specs.Model.{instances_of, plain_instances}
use Rattle.p21_reader.proofs.serial.references.Given as goal

-- the instances before this one are answered
abbrev pub invariant-loop-place : goal.invariant-loop-place
invariant-loop-place l = (k : ℕ) (d : Instance) → k < l.place → IsReferenceFault l.schema (named_in (plain_instances (instances_of l.fn.model))) (get_or (plain_instances (instances_of l.fn.model)) k d) None
