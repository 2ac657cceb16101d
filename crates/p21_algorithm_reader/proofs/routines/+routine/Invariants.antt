use Rattle.std.proofs.Common.{◌+◌, ◌*◌}
use Rattle.p21_algorithm_reader.proofs.routines.+routine.Given as goal

abbrev pub decreases-routine_within : goal.decreases-routine_within
decreases-routine_within l = 8 * l.left

abbrev pub decreases-routine_by : goal.decreases-routine_by
decreases-routine_by l = 8 * l.left + 7

abbrev pub decreases-function : goal.decreases-function
decreases-function l = 8 * l.left + 6

abbrev pub decreases-procedure : goal.decreases-procedure
decreases-procedure l = 8 * l.left + 6

abbrev pub decreases-block : goal.decreases-block
decreases-block l = 8 * l.left + 5

abbrev pub decreases-routines : goal.decreases-routines
decreases-routines l = 8 * l.left + 4
