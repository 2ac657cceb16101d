use Rattle.std.proofs.Common.{length}
use Rattle.p21_express.specs.Word.{begins_symbol}
use Rattle.p21_express.specs.Naming.{plain_namings}
use Rattle.p21_express.specs.Reader.{words_of, naming_at, next_naming}
use Rattle.p21_express.proofs.LoopLemmas.{GoingFrom}
use Rattle.p21_express.proofs.names.namings.Given as goal

abbrev pub invariant-loop-rest : goal.invariant-loop-rest
invariant-loop-rest l = GoingFrom (begins_symbol 58) next_naming (naming_at (words_of l.words)) (words_of l.rest) (plain_namings l.namings.items)

abbrev pub decreases-loop-rest : goal.decreases-loop-rest
decreases-loop-rest l = length l.rest
