use Rattle.std.proofs.Common.{◌++◌, Some, length}
use Rattle.p21_express.specs.Word.{begins_symbol}
use Rattle.p21_express.specs.Naming.{plain_namings}
use Rattle.p21_express.specs.Reader.{◌>>=◌, words_of, next_naming, symbol_at}
use Rattle.p21_rule_text.specs.Clauses.{names_at}
use Rattle.p21_rule_text.proofs.LoopLemmas.{Going}
use Rattle.p21_rule_text.proofs.clauses.names.Given as goal

abbrev pub invariant-loop-rest : goal.invariant-loop-rest
invariant-loop-rest l = Going (begins_symbol 59) next_naming (λ xs r. symbol_at 59 r >>= λ rest. Some (plain_namings l.names.items ++ xs, rest)) (words_of l.rest) (names_at (words_of l.words))

abbrev pub decreases-loop-rest : goal.decreases-loop-rest
decreases-loop-rest l = length l.rest
