use Rattle.std.proofs.Common.{ℕ, ◌+◌, ◌-◌, ◌≤◌, length, drop}
use Rattle.p21_text.specs.Closing.{Closes, NeverCloses}
use Rattle.p21_text.proofs.string.body_len.Given as goal

abbrev pub invariant-loop-rest : goal.invariant-loop-rest
invariant-loop-rest l = record {
  within : l.at ≤ length l.tail;
  closes : (n : ℕ) → Closes (drop l.at l.tail) n → Closes l.tail (l.at + n);
  never : NeverCloses (drop l.at l.tail) → NeverCloses l.tail;
}

abbrev pub decreases-loop-rest : goal.decreases-loop-rest
decreases-loop-rest l = length l.initial.tail - l.at
