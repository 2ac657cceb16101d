use Rattle.std.proofs.Common.{length, ◌-◌}
use Rattle.p21_algorithm.proofs.source.string_len.Given as goal

abbrev pub decreases-loop-at : goal.decreases-loop-at
decreases-loop-at l = length l.text - l.at
