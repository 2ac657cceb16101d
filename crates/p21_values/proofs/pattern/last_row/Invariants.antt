use Rattle.std.proofs.Common.{◌≡◌, ◌∷◌, replicate, true, false}
use Rattle.p21_values.proofs.pattern.last_row.Given as goal

abbrev pub invariant-loop-n : goal.invariant-loop-n
invariant-loop-n l = l.row.items ≡ true ∷ replicate l._n false
