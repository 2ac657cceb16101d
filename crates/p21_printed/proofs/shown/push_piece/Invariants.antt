use Rattle.std.specs.String.{string_bytes}
use Rattle.p21_printed.specs.Printed.{IsPrinted}
use Rattle.p21_printed.proofs.shown.push_piece.Given as goal

abbrev pub invariant-loop-byte : goal.invariant-loop-byte
invariant-loop-byte l = IsPrinted (string_bytes l.text)
