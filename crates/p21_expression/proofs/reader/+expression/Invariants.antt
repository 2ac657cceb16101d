use Rattle.std.proofs.Common.{◌+◌, ◌-◌, ◌*◌, ◌++◌, Some, length, map}
use Rattle.p21_express.specs.Word.{begins_symbol}
use Rattle.p21_express.specs.Reader.{words_of}
use Rattle.p21_expression.specs.Operators.{ends_operations, rank_of}
use Rattle.p21_expression.specs.Plain.{plain, plain_element, plain_operation, plain_qualifier}
use Rattle.p21_expression.specs.Reader.{ends_qualifiers, next_argument, next_element, operand_of, operation_at, operations_at, qualifier_at, qualifiers_at, reading, some_arguments_at, some_elements_at}
use Rattle.p21_expression.proofs.LoopLemmas.{Going}
use Rattle.p21_expression.proofs.reader.+expression.Given as goal

abbrev pub decreases-group : goal.decreases-group
decreases-group l = 64 * l.left + 10

abbrev pub decreases-qualifiable : goal.decreases-qualifiable
decreases-qualifiable l = 64 * l.left + 9

abbrev pub decreases-qualified : goal.decreases-qualified
decreases-qualified l = 64 * l.left + 12

abbrev pub decreases-primary : goal.decreases-primary
decreases-primary l = 64 * l.left + 13

abbrev pub decreases-operand : goal.decreases-operand
decreases-operand l = 64 * l.left + 14

abbrev pub decreases-signed : goal.decreases-signed
decreases-signed l = 64 * l.left + 15

abbrev pub decreases-factor : goal.decreases-factor
decreases-factor l = 64 * l.left + 17

abbrev pub decreases-word_operand : goal.decreases-word_operand
decreases-word_operand l = 64 * l.left + 8

abbrev pub decreases-call : goal.decreases-call
decreases-call l = 64 * l.left + 7

abbrev pub decreases-arguments : goal.decreases-arguments
decreases-arguments l = 64 * l.left + 6

abbrev pub decreases-some_arguments : goal.decreases-some_arguments
decreases-some_arguments l = 64 * l.left + 5

abbrev pub decreases-next_argument : goal.decreases-next_argument
decreases-next_argument l = 64 * l.left + 4

abbrev pub decreases-aggregate : goal.decreases-aggregate
decreases-aggregate l = 64 * l.left + 10

abbrev pub decreases-elements : goal.decreases-elements
decreases-elements l = 64 * l.left + 9

abbrev pub decreases-some_elements : goal.decreases-some_elements
decreases-some_elements l = 64 * l.left + 8

abbrev pub decreases-next_element : goal.decreases-next_element
decreases-next_element l = 64 * l.left + 7

abbrev pub decreases-element : goal.decreases-element
decreases-element l = 64 * l.left + 6

abbrev pub decreases-qualifiers : goal.decreases-qualifiers
decreases-qualifiers l = 64 * l.left + 10

abbrev pub decreases-qualifier : goal.decreases-qualifier
decreases-qualifier l = 64 * l.left + 8

abbrev pub decreases-index : goal.decreases-index
decreases-index l = 64 * l.left + 7

abbrev pub decreases-interval : goal.decreases-interval
decreases-interval l = 64 * l.left + 10

abbrev pub decreases-query : goal.decreases-query
decreases-query l = 64 * l.left + 10

abbrev pub decreases-nested : goal.decreases-nested
decreases-nested l = 64 * l.left

abbrev pub decreases-chain : goal.decreases-chain
decreases-chain l = 64 * l.left + (44 - 6 * rank_of l.precedence)

abbrev pub decreases-operand_of : goal.decreases-operand_of
decreases-operand_of l = 64 * l.left + (41 - 6 * rank_of l.precedence)

abbrev pub decreases-operation : goal.decreases-operation
decreases-operation l = 64 * l.left + (42 - 6 * rank_of l.precedence)

abbrev pub decreases-operations : goal.decreases-operations
decreases-operations l = 64 * l.left + (43 - 6 * rank_of l.precedence)

abbrev pub invariant-operations-loop-alloc : goal.invariant-operations-loop-alloc
invariant-operations-loop-alloc l = Going (ends_operations l.precedence) (operation_at (operand_of (reading l.left) l.precedence)) (λ xs r. Some (map plain_operation l.further.items ++ xs, r)) (words_of l.rest) (operations_at (operand_of (reading l.left) l.precedence) l.precedence (words_of l.words))

abbrev pub decreases-operations-loop-alloc : goal.decreases-operations-loop-alloc
decreases-operations-loop-alloc l = length l.rest

abbrev pub invariant-qualifiers-loop-alloc : goal.invariant-qualifiers-loop-alloc
invariant-qualifiers-loop-alloc l = Going ends_qualifiers (qualifier_at (reading l.left)) (λ xs r. Some (map plain_qualifier l.by.items ++ xs, r)) (words_of l.rest) (qualifiers_at (reading l.left) (words_of l.words))

abbrev pub decreases-qualifiers-loop-alloc : goal.decreases-qualifiers-loop-alloc
decreases-qualifiers-loop-alloc l = length l.rest

abbrev pub invariant-some_arguments-loop-alloc : goal.invariant-some_arguments-loop-alloc
invariant-some_arguments-loop-alloc l = Going (begins_symbol 41) (next_argument (reading l.left)) (λ xs r. Some (map plain l.arguments.items ++ xs, r)) (words_of l.rest) (some_arguments_at (reading l.left) (words_of l.words))

abbrev pub decreases-some_arguments-loop-alloc : goal.decreases-some_arguments-loop-alloc
decreases-some_arguments-loop-alloc l = length l.rest

abbrev pub invariant-some_elements-loop-alloc : goal.invariant-some_elements-loop-alloc
invariant-some_elements-loop-alloc l = Going (begins_symbol 93) (next_element (reading l.left)) (λ xs r. Some (map plain_element l.elements.items ++ xs, r)) (words_of l.rest) (some_elements_at (reading l.left) (words_of l.words))

abbrev pub decreases-some_elements-loop-alloc : goal.decreases-some_elements-loop-alloc
decreases-some_elements-loop-alloc l = length l.rest
