use Rattle.std.proofs.Common.{take}
use Rattle.std.specs.List.{AllByRecursion}
use Rattle.p21_text.specs.Runs.{IsNameByte}
use Rattle.p21_text.proofs.bytes.name_run.Given as goal

abbrev pub invariant-loop-i : goal.invariant-loop-i
invariant-loop-i l = AllByRecursion IsNameByte (take l.i l.text)
