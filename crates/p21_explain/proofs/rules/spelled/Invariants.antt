use Rattle.std.proofs.Common.{length}
use Rattle.p21_explain.proofs.rules.spelled.Given as goal

abbrev pub decreases-loop-word : goal.decreases-loop-word
decreases-loop-word l = length l.rest
