use Rattle.std.proofs.Common.{◌≡◌, ◌++◌, take, drop}
use Rattle.p21_rules.specs.Number.{before_first, behind_first}
use Rattle.p21_rules.proofs.number.parted.Given as goal

-- no such byte stands in front of this place
abbrev pub invariant-loop-place : goal.invariant-loop-place
invariant-loop-place l =
    record {
      before : before_first l.byte l.text ≡ take l.place l.text ++ before_first l.byte (drop l.place l.text);
      behind : behind_first l.byte l.text ≡ behind_first l.byte (drop l.place l.text);
    }
