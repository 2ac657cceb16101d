use Rattle.std.proofs.Common.{◌≡◌, ◌++◌, drop, map}
use Rattle.p21_rule_run.specs.RuleFault.{both}
use Rattle.p21_rule_run.specs.declared.rule_fault.RuleFault.TheVariants as fault
use Rattle.p21_rule_run.proofs.rule_fault.both.Given as goal

abbrev pub invariant-loop-fault : goal.invariant-loop-fault
invariant-loop-fault l = l.all.items ++ map fault.NotUnique (drop l.fault-index l.unique) ≡ map fault.NotUnique l.unique

abbrev pub invariant-loop-fault-2 : goal.invariant-loop-fault-2
invariant-loop-fault-2 l = l.all.items ++ map fault.InverseCount (drop l.fault-index l.inverse) ≡ both l.unique l.inverse
