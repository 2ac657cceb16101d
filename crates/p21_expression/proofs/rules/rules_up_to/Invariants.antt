use Rattle.std.proofs.Common.{◌++◌, Some, length, map}
use Rattle.p21_express.specs.Word.{begins_name}
use Rattle.p21_express.specs.Reader.{words_of}
use Rattle.p21_expression.specs.Rules.{plain_rule, rule_at, rules_at}
use Rattle.p21_expression.proofs.LoopLemmas.{Going}
use Rattle.p21_expression.proofs.rules.rules_up_to.Given as goal

abbrev pub invariant-loop-alloc : goal.invariant-loop-alloc
invariant-loop-alloc l = Going (begins_name l.last) rule_at (λ xs r. Some (map plain_rule l.rules.items ++ xs, r)) (words_of l.rest) (rules_at l.last (words_of l.words))

abbrev pub decreases-loop-alloc : goal.decreases-loop-alloc
decreases-loop-alloc l = length l.rest
