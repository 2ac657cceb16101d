use Rattle.std.proofs.Common.{◌≡◌, ◌-◌, ◌≤◌, length, drop}
use Rattle.p21_express.specs.Lexer.{remark_end}
use Rattle.p21_express.proofs.words.behind_remark.Given as goal

abbrev pub invariant-loop-at : goal.invariant-loop-at
invariant-loop-at l = (l.depth ≤ l.at) × (l.at ≤ length l.text) × (remark_end l.depth (drop l.at l.text) ≡ remark_end 0 l.text)

abbrev pub decreases-loop-at : goal.decreases-loop-at
decreases-loop-at l = length l.text - l.at
