use Rattle.std.proofs.Common.{length, map}
use Rattle.p21_express.specs.Grammar.{begins_rules}
use Rattle.p21_express.specs.Plain.{plain_derived}
use Rattle.p21_express.specs.Reader.{words_of, derived_at}
use Rattle.p21_express.proofs.LoopLemmas.{Going}
use Rattle.p21_express.proofs.attributes.all_derived.Given as goal

abbrev pub invariant-loop-alloc : goal.invariant-loop-alloc
invariant-loop-alloc l = Going begins_rules derived_at (words_of l.initial.rest) (words_of l.rest) (map plain_derived l.list.items)

abbrev pub decreases-loop-alloc : goal.decreases-loop-alloc
decreases-loop-alloc l = length l.rest
