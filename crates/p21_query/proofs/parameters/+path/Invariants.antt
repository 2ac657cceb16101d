use Rattle.std.proofs.Common.{◌+◌, ◌*◌, length}
use Rattle.p21_query.proofs.parameters.+path.Given as goal

abbrev pub decreases-parameter_at : goal.decreases-parameter_at
decreases-parameter_at l = 2 * length l.path.now

abbrev pub decreases-behind : goal.decreases-behind
decreases-behind l = 2 * length l.path.now + 1
