use Rattle.std.proofs.Common.{◌+◌, ◌*◌}
use Rattle.p21_program.proofs.expressions.+expressions.Given as goal

abbrev pub decreases-within : goal.decreases-within
decreases-within l = 16 * l.left

abbrev pub decreases-by_parts : goal.decreases-by_parts
decreases-by_parts l = 16 * l.left + 15

abbrev pub decreases-call : goal.decreases-call
decreases-call l = 16 * l.left + 14

abbrev pub decreases-users : goal.decreases-users
decreases-users l = 16 * l.left + 13

abbrev pub decreases-terms : goal.decreases-terms
decreases-terms l = 16 * l.left + 12

abbrev pub decreases-combined : goal.decreases-combined
decreases-combined l = 16 * l.left + 14

abbrev pub decreases-type_test : goal.decreases-type_test
decreases-type_test l = 16 * l.left + 13

abbrev pub decreases-operated : goal.decreases-operated
decreases-operated l = 16 * l.left + 12

abbrev pub decreases-aggregate : goal.decreases-aggregate
decreases-aggregate l = 16 * l.left + 14

abbrev pub decreases-member_of : goal.decreases-member_of
decreases-member_of l = 16 * l.left + 12

abbrev pub decreases-between : goal.decreases-between
decreases-between l = 16 * l.left + 14

abbrev pub decreases-query : goal.decreases-query
decreases-query l = 16 * l.left + 14

abbrev pub decreases-qualified : goal.decreases-qualified
decreases-qualified l = 16 * l.left + 14

abbrev pub decreases-read_from : goal.decreases-read_from
decreases-read_from l = 16 * l.left + 13

abbrev pub decreases-read_one : goal.decreases-read_one
decreases-read_one l = 16 * l.left + 12
