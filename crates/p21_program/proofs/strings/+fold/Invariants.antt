use Rattle.std.proofs.Common.{◌+◌, ◌*◌}
use Rattle.p21_program.proofs.strings.+fold.Given as goal

abbrev pub decreases-add_folded : goal.decreases-add_folded
decreases-add_folded l = 2 * l.left

abbrev pub decreases-add_operations : goal.decreases-add_operations
decreases-add_operations l = 2 * l.left + 1
