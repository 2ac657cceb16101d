use Rattle.std.specs.String.{string_bytes}
use Rattle.p21_printed.specs.Printed.{IsPrinted}
use Rattle.p21_explain.proofs.groups.printed.Given as goal

abbrev pub invariant-loop-group : goal.invariant-loop-group
invariant-loop-group l = IsPrinted (string_bytes l.text)
