use Rattle.std.proofs.Common.{◌≡◌, length}
use Rattle.p21_json.specs.Numerals.{without_zeros}
use Rattle.p21_json.proofs.numerals.behind_zeros.Given as goal

abbrev pub invariant-loop-first : goal.invariant-loop-first
invariant-loop-first l = without_zeros l.rest ≡ without_zeros l.digits

abbrev pub decreases-loop-first : goal.decreases-loop-first
decreases-loop-first l = length l.rest
