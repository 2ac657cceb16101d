use Rattle.std.proofs.Common.{◌≡◌, replicate}
use Rattle.p21_express.proofs.checks.graph.repeated.Given as goal

abbrev pub invariant-loop : goal.invariant-loop
invariant-loop g l = l.list.items ≡ replicate l.counter l.value
