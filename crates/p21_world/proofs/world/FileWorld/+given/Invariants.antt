use Rattle.std.proofs.Common.{◌+◌, ◌*◌}
use Rattle.p21_world.proofs.world.FileWorld.+given.Given as goal

abbrev pub decreases-given : goal.decreases-given
decreases-given l = 8 * l.depth

abbrev pub decreases-given_type : goal.decreases-given_type
decreases-given_type l = 8 * l.depth + 6

abbrev pub decreases-given_plain : goal.decreases-given_plain
decreases-given_plain l = 8 * l.depth + 5

abbrev pub decreases-given_elements : goal.decreases-given_elements
decreases-given_elements l = 8 * l.depth + 4
