use Rattle.std.proofs.Common.{◌≡◌, ◌++◌, drop}
use Rattle.p21_render.specs.FaultLine.{fault_lines}
use Rattle.p21_render.proofs.fault_text.render_faults.Given as goal

-- the lines so far and those of the faults that are left are all lines
abbrev pub invariant-loop-fault : goal.invariant-loop-fault
invariant-loop-fault l = l.text.items ++ fault_lines (drop l.fault-index l.faults) ≡ fault_lines l.faults
