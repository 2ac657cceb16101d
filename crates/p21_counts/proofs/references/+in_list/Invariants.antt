use Rattle.std.proofs.Common.{◌≡◌, ◌+◌, ◌<◌, ◌^◌}
use Rattle.p21_counts.specs.Counts.{capped}
use Rattle.p21_counts.proofs.CountLemmas.{left_in}
use Rattle.p21_counts.proofs.references.+in_list.Given as goal

abbrev pub invariant-loop-param : goal.invariant-loop-param
invariant-loop-param l = (l.sum < 2 ^ 64) × (capped (l.sum + left_in l.params l.param-index) ≡ capped (left_in l.params 0))
