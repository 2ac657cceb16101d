use Rattle.std.proofs.Common.{Some, length}
use Rattle.p21_express.specs.Grammar.{ends_attributes}
use Rattle.p21_express.specs.Reader.{words_of, up_to}
use Rattle.p21_rule_text.specs.Entities.{behind_statements}
use Rattle.p21_rule_text.proofs.LoopLemmas.{Going}
use Rattle.p21_rule_text.proofs.entities.behind_explicit.Given as goal

abbrev pub invariant-loop-rest : goal.invariant-loop-rest
invariant-loop-rest l = Going ends_attributes (up_to 59) (λ xs r. Some r) (words_of l.rest) (behind_statements ends_attributes (words_of l.words))

abbrev pub decreases-loop-rest : goal.decreases-loop-rest
decreases-loop-rest l = length l.rest
