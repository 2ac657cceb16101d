use Rattle.std.proofs.Common.{◌≡◌, map}
use Rattle.p21_program.proofs.resolve.judged.Given as goal

abbrev pub invariant-loop-rule : goal.invariant-loop-rule
invariant-loop-rule l = map (λ r. r.span) l.judged.items ≡ map (λ r. r.span) l.yielded
