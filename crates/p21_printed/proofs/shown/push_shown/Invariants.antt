use Rattle.std.proofs.Common.{length, ◌-◌, ◌≤◌}
use Rattle.std.specs.String.{string_bytes}
use Rattle.p21_printed.specs.Printed.{IsPrinted}
use Rattle.p21_printed.proofs.shown.push_shown.Given as goal

abbrev pub invariant-loop-at : goal.invariant-loop-at
invariant-loop-at l = record {
  within : l.at ≤ length l.bytes;
  printed : IsPrinted (string_bytes l.text);
}

abbrev pub decreases-loop-at : goal.decreases-loop-at
decreases-loop-at l = length l.bytes - l.at
