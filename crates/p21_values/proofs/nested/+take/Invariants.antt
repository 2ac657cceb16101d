use Rattle.std.proofs.Common.{◌+◌, ◌*◌}
use Rattle.p21_values.proofs.nested.+take.Given as goal

abbrev pub decreases-take_each : goal.decreases-take_each
decreases-take_each l = 2 * l.depth + 1

abbrev pub decreases-take_value : goal.decreases-take_value
decreases-take_value l = 2 * l.depth
