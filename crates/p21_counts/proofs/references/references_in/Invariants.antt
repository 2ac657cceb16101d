use Rattle.std.proofs.Common.{◌≡◌, ◌+◌, ◌<◌, ◌^◌}
use Rattle.p21_counts.specs.Counts.{capped}
use Rattle.p21_counts.proofs.CountLemmas.{left_of}
use Rattle.p21_counts.proofs.references.references_in.Given as goal

abbrev pub invariant-loop-record : goal.invariant-loop-record
invariant-loop-record l = (l.sum < 2 ^ 64) × (capped (l.sum + left_of l.record-items l.record-index) ≡ capped (left_of l.record-items 0))
