use Rattle.std.proofs.Common.{◌-◌, ◌≤◌, vec_len}
use Rattle.p21_program.proofs.texts.Texts.position.Given as goal

abbrev pub invariant-loop-low : goal.invariant-loop-low
invariant-loop-low l = l.high ≤ vec_len l.self.all

abbrev pub decreases-loop-low : goal.decreases-loop-low
decreases-loop-low l = l.high - l.low
