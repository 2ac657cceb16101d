use Rattle.std.proofs.Common.{◌≡◌, ◌+◌, ◌<◌, ℕ, get_or}
use Rattle.p21_check.proofs.repeated_names.has_equal_neighbors.Given as goal

-- no two neighbors so far are equal
abbrev pub invariant-loop-next : goal.invariant-loop-next
invariant-loop-next l = (i k : ℕ) → i + 1 ≡ k → k < l.next → ¬ (get_or l.names i 0 ≡ get_or l.names k 0)
