use Rattle.std.proofs.Common.{◌≡◌, ◌++◌, drop}
use Rattle.p21_rule_run.specs.FaultLine.{rule_fault_lines}
use Rattle.p21_rule_run.proofs.fault_text.render_rule_faults.Given as goal

-- the lines so far and those of the faults that are left are all lines
abbrev pub invariant-loop-fault : goal.invariant-loop-fault
invariant-loop-fault l = l.text.items ++ rule_fault_lines l.schema l.rules (drop l.fault-index l.faults) ≡ rule_fault_lines l.schema l.rules l.faults
