use Rattle.std.proofs.Common.{◌+◌, ◌*◌}
use Rattle.p21_program.proofs.statements.+repeats.Given as goal

abbrev pub decreases-repeats_in : goal.decreases-repeats_in
decreases-repeats_in l = 2 * l.left

abbrev pub decreases-repeats : goal.decreases-repeats
decreases-repeats l = 2 * l.left + 1

abbrev pub decreases-repeats_in_actions : goal.decreases-repeats_in_actions
decreases-repeats_in_actions l = 2 * l.left + 1
