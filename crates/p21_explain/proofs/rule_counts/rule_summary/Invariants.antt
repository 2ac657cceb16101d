use Rattle.std.specs.String.{string_bytes}
use Rattle.p21_printed.specs.Printed.{IsPrinted}
use Rattle.p21_explain.proofs.rule_counts.rule_summary.Given as goal

abbrev pub invariant-loop-counted : goal.invariant-loop-counted
invariant-loop-counted l = IsPrinted (string_bytes l.printed)
