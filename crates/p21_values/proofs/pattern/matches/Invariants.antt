use Rattle.std.proofs.Common.{◌-◌, drop, length}
use Rattle.p21_values.specs.Pattern.{IsRow}
use Rattle.p21_values.specs.Plain.{codes}
use Rattle.p21_values.proofs.pattern.matches.Given as goal

abbrev pub invariant-loop-done : goal.invariant-loop-done
invariant-loop-done l = IsRow (drop (length l.marks - l.done) l.marks) (codes l.text) l.row.items
