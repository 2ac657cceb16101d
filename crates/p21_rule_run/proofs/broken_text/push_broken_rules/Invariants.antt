use Rattle.std.proofs.Common.{◌≡◌, ◌++◌, drop}
use Rattle.p21_rule_run.specs.BrokenLine.{rule_broken_lines}
use Rattle.p21_rule_run.proofs.broken_text.push_broken_rules.Given as goal

-- the lines so far and those of the faults that are left are all lines
abbrev pub invariant-loop-fault : goal.invariant-loop-fault
invariant-loop-fault l = l.text.items ++ rule_broken_lines l.rules (drop l.fault-index l.broken) ≡ l.initial.text.items ++ rule_broken_lines l.rules l.broken
