use Rattle.std.proofs.Common.{◌≡◌, ◌++◌, drop}
use Rattle.p21_values.specs.Pattern.{marks_of}
use Rattle.p21_values.specs.Plain.{codes}
use Rattle.p21_values.specs.declared.pattern.Reading.TheVariants.{Plain}
use Rattle.p21_values.proofs.pattern.marks.Given as goal

abbrev pub invariant-loop-at : goal.invariant-loop-at
invariant-loop-at l = marks_of Plain (codes l.pattern) ≡ l.marks.items ++ marks_of l.reading (drop l.at (codes l.pattern))
