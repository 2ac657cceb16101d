use Rattle.std.proofs.Common.{◌++◌, Some, length, map}
use Rattle.p21_express.specs.Grammar.{begins_rules}
use Rattle.p21_express.specs.Reader.{words_of, many_at}
use Rattle.p21_rule_text.specs.Clauses.{inverse_at, plain_inverse}
use Rattle.p21_rule_text.proofs.LoopLemmas.{Going}
use Rattle.p21_rule_text.proofs.entities.inverses_from.Given as goal

abbrev pub invariant-loop-rest : goal.invariant-loop-rest
invariant-loop-rest l = Going begins_rules inverse_at (λ xs r. Some (map plain_inverse l.clauses.items ++ xs, r)) (words_of l.rest) (many_at begins_rules inverse_at (words_of l.words))

abbrev pub decreases-loop-rest : goal.decreases-loop-rest
decreases-loop-rest l = length l.rest
