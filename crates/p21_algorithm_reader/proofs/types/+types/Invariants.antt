use Rattle.std.proofs.Common.{◌+◌, ◌*◌}
use Rattle.p21_algorithm_reader.proofs.types.+types.Given as goal

abbrev pub decreases-type_within : goal.decreases-type_within
decreases-type_within l = 4 * l.left

abbrev pub decreases-type_by : goal.decreases-type_by
decreases-type_by l = 4 * l.left + 3

abbrev pub decreases-aggregation : goal.decreases-aggregation
decreases-aggregation l = 4 * l.left + 2

abbrev pub decreases-aggregate : goal.decreases-aggregate
decreases-aggregate l = 4 * l.left + 2
