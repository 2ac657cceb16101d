use Rattle.std.proofs.Common.{◌≡◌, length}
use Rattle.p21_rules.specs.Number.{behind_zeros}
use Rattle.p21_rules.proofs.number.behind_zeros.Given as goal

abbrev pub invariant-loop-rest : goal.invariant-loop-rest
invariant-loop-rest l = behind_zeros l.rest ≡ behind_zeros l.digits

abbrev pub decreases-loop-rest : goal.decreases-loop-rest
decreases-loop-rest l = length l.rest
