use Rattle.std.proofs.Common.{◌+◌, ◌-◌, ◌≤◌, length, drop}
use Rattle.p21_cut.specs.Pieces.{PartsAre}
use Rattle.p21_cut.proofs.parts.piece_end.Given as goal

-- parts stand from after the `#` up to here
abbrev pub invariant-loop-len : goal.invariant-loop-len
invariant-loop-len l = record {
  behind : l.initial.start + 1 ≤ l.at;
  within : l.at ≤ length l.initial.file;
  parts : PartsAre (drop (l.initial.start + 1) l.initial.file) (l.at - (l.initial.start + 1));
}

abbrev pub decreases-loop-len : goal.decreases-loop-len
decreases-loop-len l = length l.initial.file - l.at
