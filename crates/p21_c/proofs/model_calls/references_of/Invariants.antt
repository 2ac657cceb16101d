use Rattle.std.proofs.Common.{◌≡◌, ◌+◌, ◌<◌, ◌^◌}
use Rattle.p21_counts.specs.Counts.{capped}
use Rattle.p21_c.proofs.ReferenceLemmas.{left_in}
use Rattle.p21_c.proofs.model_calls.references_of.Given as goal

abbrev pub invariant-loop-instance : goal.invariant-loop-instance
invariant-loop-instance l = (l.sum < 2 ^ 64) × (capped (l.sum + left_in l.instances l.instance-index) ≡ capped (left_in l.instances 0))
