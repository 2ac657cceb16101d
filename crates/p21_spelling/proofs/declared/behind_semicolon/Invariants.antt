use Rattle.std.proofs.Common.{length}
use Rattle.p21_spelling.proofs.declared.behind_semicolon.Given as goal

abbrev pub decreases-loop-first : goal.decreases-loop-first
decreases-loop-first l = length l.rest
