use Rattle.std.proofs.Common.{◌≡◌, ◌+◌, ◌≤◌, length}
use Rattle.p21_express.specs.Reader.{words_of, ends_at, again_of}
use Rattle.p21_express.proofs.parts.behind.Given as goal

-- what is open, and what is left to skip
abbrev pub invariant-loop-rest : goal.invariant-loop-rest
invariant-loop-rest l = (l.depth + length l.rest ≤ length l.words) × (ends_at (again_of l.again) l.last l.depth (words_of l.rest) ≡ ends_at (again_of l.again) l.last 0 (words_of l.words))

abbrev pub decreases-loop-rest : goal.decreases-loop-rest
decreases-loop-rest l = length l.rest
