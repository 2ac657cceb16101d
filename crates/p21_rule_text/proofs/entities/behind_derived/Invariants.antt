use Rattle.std.proofs.Common.{Some, length}
use Rattle.p21_express.specs.Grammar.{begins_rules}
use Rattle.p21_express.specs.Reader.{words_of, up_to}
use Rattle.p21_rule_text.specs.Entities.{behind_statements}
use Rattle.p21_rule_text.proofs.LoopLemmas.{Going}
use Rattle.p21_rule_text.proofs.entities.behind_derived.Given as goal

abbrev pub invariant-loop-rest : goal.invariant-loop-rest
invariant-loop-rest l = Going begins_rules (up_to 59) (λ xs r. Some r) (words_of l.rest) (behind_statements begins_rules (words_of l.words))

abbrev pub decreases-loop-rest : goal.decreases-loop-rest
decreases-loop-rest l = length l.rest
