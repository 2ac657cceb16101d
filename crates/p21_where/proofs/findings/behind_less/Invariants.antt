use Rattle.std.proofs.Common.{◌≤◌, length}
use Rattle.p21_where.proofs.findings.behind_less.Given as goal

abbrev pub invariant-loop-place : goal.invariant-loop-place
invariant-loop-place l = l.place ≤ length l.numbers

abbrev pub decreases-loop-place : goal.decreases-loop-place
decreases-loop-place l = l.place
