use Rattle.std.specs.String.{string_bytes}
use Rattle.p21_printed.specs.Printed.{IsPrinted}
use Rattle.p21_printed.proofs.shown.push_blanks.Given as goal

abbrev pub invariant-loop : goal.invariant-loop
invariant-loop l = IsPrinted (string_bytes l.text)
