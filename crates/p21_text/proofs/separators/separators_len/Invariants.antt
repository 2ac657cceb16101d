use Rattle.std.proofs.Common.{ℕ, ◌+◌, ◌-◌, ◌≤◌, length, drop}
use Rattle.p21_text.specs.Tokens.{Passes}
use Rattle.p21_text.proofs.separators.separators_len.Given as goal

-- what the rest of the text passes, the text passes after what was passed so far
abbrev pub invariant-loop-len : goal.invariant-loop-len
invariant-loop-len l = record {
  within : l.at ≤ length l.text;
  goes : (n : ℕ) → Passes (drop l.at l.text) n → Passes l.text (l.at + n);
}

abbrev pub decreases-loop-len : goal.decreases-loop-len
decreases-loop-len l = length l.text - l.at
