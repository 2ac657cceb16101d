use Rattle.std.proofs.Common.{◌++◌, Some, length, map}
use Rattle.std.specs.Prelude.{codes}
use Rattle.p21_express.specs.Word.{begins_name}
use Rattle.p21_express.specs.Reader.{words_of}
use Rattle.p21_rule_text.specs.Entities.{declaration_at, declarations_at, joined, plain_clauses}
use Rattle.p21_rule_text.proofs.LoopLemmas.{Going}
use Rattle.p21_rule_text.proofs.entities.declarations.Given as goal

abbrev pub invariant-loop-alloc : goal.invariant-loop-alloc
invariant-loop-alloc l = Going (begins_name (codes "END_SCHEMA")) declaration_at (λ ds r. Some (map plain_clauses l.entities.items ++ joined ds, r)) (words_of l.rest) (declarations_at (words_of l.words))

abbrev pub decreases-loop-alloc : goal.decreases-loop-alloc
decreases-loop-alloc l = length l.rest
