use Rattle.std.proofs.Common.{◌+◌, ◌*◌}
use Rattle.p21_program.proofs.statements.+statements.Given as goal

abbrev pub decreases-statement : goal.decreases-statement
decreases-statement l = 4 * l.left

abbrev pub decreases-several : goal.decreases-several
decreases-several l = 4 * l.left + 1

abbrev pub decreases-bodies : goal.decreases-bodies
decreases-bodies l = 4 * l.left + 1

abbrev pub decreases-repeat : goal.decreases-repeat
decreases-repeat l = 4 * l.left + 2

abbrev pub decreases-by_kind : goal.decreases-by_kind
decreases-by_kind l = 4 * l.left + 3
