use Rattle.std.proofs.Common.{◌≡◌, ◌++◌, ◌-◌}
use Rattle.p21_values.specs.Plain.{codes, part}
use Rattle.p21_values.proofs.characters.add_codes.Given as goal

abbrev pub invariant-loop-at : goal.invariant-loop-at
invariant-loop-at l = l.made.items ≡ l.initial.made.items ++ part (codes l.text) l.from l.at
