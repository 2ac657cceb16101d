use Rattle.std.proofs.Common.{◌++◌, Some, length, map}
use Rattle.p21_express.specs.Grammar.{begins_rules}
use Rattle.p21_express.specs.Reader.{words_of, many_at}
use Rattle.p21_rule_text.specs.Clauses.{unique_at, plain_unique}
use Rattle.p21_rule_text.proofs.LoopLemmas.{Going}
use Rattle.p21_rule_text.proofs.entities.uniques_from.Given as goal

abbrev pub invariant-loop-alloc : goal.invariant-loop-alloc
invariant-loop-alloc l = Going begins_rules unique_at (λ xs r. Some (map plain_unique l.clauses.items ++ xs, r)) (words_of l.rest) (many_at begins_rules unique_at (words_of l.words))

abbrev pub decreases-loop-alloc : goal.decreases-loop-alloc
decreases-loop-alloc l = length l.rest
