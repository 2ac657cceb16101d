use Rattle.std.proofs.Common.{◌≡◌, length}
use Rattle.p21_rules.specs.Number.{before_zeros}
use Rattle.p21_rules.proofs.number.before_zeros.Given as goal

abbrev pub invariant-loop-rest : goal.invariant-loop-rest
invariant-loop-rest l = before_zeros l.rest ≡ before_zeros l.digits

abbrev pub decreases-loop-rest : goal.decreases-loop-rest
decreases-loop-rest l = length l.rest
