use Rattle.std.proofs.Common.{length, map}
use Rattle.p21_express.specs.Plain.{plain_attribute}
use Rattle.p21_express.specs.Reader.{words_of}
use Rattle.p21_express.proofs.AttributeLemmas.{GoingJoined}
use Rattle.p21_express.proofs.attributes.all_attributes.Given as goal

abbrev pub invariant-loop-alloc : goal.invariant-loop-alloc
invariant-loop-alloc l = GoingJoined (words_of l.initial.rest) (words_of l.rest) (map plain_attribute l.list.items)

abbrev pub decreases-loop-alloc : goal.decreases-loop-alloc
decreases-loop-alloc l = length l.rest
