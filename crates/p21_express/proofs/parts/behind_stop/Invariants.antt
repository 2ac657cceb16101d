use Rattle.std.proofs.Common.{◌≡◌, ◌+◌, ◌≤◌, length}
use Rattle.p21_express.specs.Reader.{words_of, behind_stop}
use Rattle.p21_express.proofs.parts.behind_stop.Given as goal

-- what is open, and what is left to skip
abbrev pub invariant-loop-rest : goal.invariant-loop-rest
invariant-loop-rest l = (l.depth + length l.rest ≤ length l.words) × (behind_stop l.stop l.depth (words_of l.rest) ≡ behind_stop l.stop 0 (words_of l.words))

abbrev pub decreases-loop-rest : goal.decreases-loop-rest
decreases-loop-rest l = length l.rest
