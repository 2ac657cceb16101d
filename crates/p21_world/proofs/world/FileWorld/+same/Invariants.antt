use Rattle.std.proofs.Common.{◌+◌, ◌*◌}
use Rattle.p21_world.proofs.world.FileWorld.+same.Given as goal

abbrev pub decreases-same_instances : goal.decreases-same_instances
decreases-same_instances l = 8 * l.depth + 6

abbrev pub decreases-same_attributes : goal.decreases-same_attributes
decreases-same_attributes l = 8 * l.depth + 5

abbrev pub decreases-same_own : goal.decreases-same_own
decreases-same_own l = 8 * l.depth + 4

abbrev pub decreases-same_values : goal.decreases-same_values
decreases-same_values l = 8 * l.depth

abbrev pub decreases-same_in_order : goal.decreases-same_in_order
decreases-same_in_order l = 8 * l.depth + 4

abbrev pub decreases-same_counted : goal.decreases-same_counted
decreases-same_counted l = 8 * l.depth + 5

abbrev pub decreases-partner : goal.decreases-partner
decreases-partner l = 8 * l.depth + 4
