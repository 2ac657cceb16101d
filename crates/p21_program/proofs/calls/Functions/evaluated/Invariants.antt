use Rattle.std.proofs.Common.{◌≡◌, length}
use Rattle.p21_program.proofs.calls.Functions.evaluated.Given as goal

abbrev pub invariant-loop-entry : goal.invariant-loop-entry
invariant-loop-entry l = length l.functions.items ≡ length l.obstacles.items
