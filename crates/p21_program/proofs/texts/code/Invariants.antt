use Rattle.std.proofs.Common.{◌<◌}
use Rattle.p21_program.proofs.texts.code.Given as goal

abbrev pub invariant-loop-digit : goal.invariant-loop-digit
invariant-loop-digit l = l.code < 256
