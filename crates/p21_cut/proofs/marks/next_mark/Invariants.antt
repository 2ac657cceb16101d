use Rattle.std.proofs.Common.{◌-◌, ◌≤◌, length}
use Rattle.memchr.specs.Find.{Nowhere, Passes, is_byte3}
use Rattle.p21_cut.proofs.marks.next_mark.Given as goal

-- no mark stands before here
abbrev pub invariant-loop-at : goal.invariant-loop-at
invariant-loop-at l = record {
  within : l.at ≤ length l.text;
  nowhere : Nowhere (Passes (is_byte3 59 39 47) l.text) 0 l.at;
}

abbrev pub decreases-loop-at : goal.decreases-loop-at
decreases-loop-at l = length l.text - l.at
