use Rattle.std.proofs.Common.{length}
use Rattle.p21_express.specs.Word.{begins_symbol}
use Rattle.p21_express.specs.Naming.{texts}
use Rattle.p21_express.specs.Reader.{words_of, name_at, next_name}
use Rattle.p21_express.proofs.LoopLemmas.{GoingFrom}
use Rattle.p21_express.proofs.names.names_inside.Given as goal

abbrev pub invariant-loop-alloc : goal.invariant-loop-alloc
invariant-loop-alloc l = GoingFrom (begins_symbol 41) next_name (name_at (words_of l.words)) (words_of l.rest) (texts l.names.names.items)

abbrev pub decreases-loop-alloc : goal.decreases-loop-alloc
decreases-loop-alloc l = length l.rest
