use Rattle.std.proofs.Common.{◌+◌, ◌*◌}
use Rattle.p21_world.proofs.world.FileWorld.+values.Given as goal

abbrev pub decreases-value : goal.decreases-value
decreases-value l = 8 * l.depth

abbrev pub decreases-value_of_type : goal.decreases-value_of_type
decreases-value_of_type l = 8 * l.depth + 6

abbrev pub decreases-value_of_select : goal.decreases-value_of_select
decreases-value_of_select l = 8 * l.depth

abbrev pub decreases-plain_value : goal.decreases-plain_value
decreases-plain_value l = 8 * l.depth + 5

abbrev pub decreases-aggregate : goal.decreases-aggregate
decreases-aggregate l = 8 * l.depth + 4
