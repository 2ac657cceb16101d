use Rattle.std.proofs.Common.{◌+◌, ◌*◌}
use Rattle.p21_where.proofs.instances.Run.+types.Given as goal

abbrev pub decreases-add_value : goal.decreases-add_value
decreases-add_value l = 8 * l.depth

abbrev pub decreases-add_elements : goal.decreases-add_elements
decreases-add_elements l = 8 * l.depth + 4

abbrev pub decreases-add_defined : goal.decreases-add_defined
decreases-add_defined l = 8 * l.depth + 4
