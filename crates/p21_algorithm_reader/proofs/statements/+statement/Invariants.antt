use Rattle.std.proofs.Common.{◌+◌, ◌*◌}
use Rattle.p21_algorithm_reader.proofs.statements.+statement.Given as goal

abbrev pub decreases-statement : goal.decreases-statement
decreases-statement l = 16 * l.left

abbrev pub decreases-statement_by : goal.decreases-statement_by
decreases-statement_by l = 16 * l.left + 15

abbrev pub decreases-several : goal.decreases-several
decreases-several l = 16 * l.left + 10

abbrev pub decreases-some : goal.decreases-some
decreases-some l = 16 * l.left + 11

abbrev pub decreases-if_statement : goal.decreases-if_statement
decreases-if_statement l = 16 * l.left + 14

abbrev pub decreases-if_else : goal.decreases-if_else
decreases-if_else l = 16 * l.left + 12

abbrev pub decreases-case : goal.decreases-case
decreases-case l = 16 * l.left + 14

abbrev pub decreases-actions : goal.decreases-actions
decreases-actions l = 16 * l.left + 13

abbrev pub decreases-action : goal.decreases-action
decreases-action l = 16 * l.left + 12

abbrev pub decreases-if_otherwise : goal.decreases-if_otherwise
decreases-if_otherwise l = 16 * l.left + 12

abbrev pub decreases-repeat : goal.decreases-repeat
decreases-repeat l = 16 * l.left + 14

abbrev pub decreases-alias : goal.decreases-alias
decreases-alias l = 16 * l.left + 14

abbrev pub decreases-compound : goal.decreases-compound
decreases-compound l = 16 * l.left + 14
