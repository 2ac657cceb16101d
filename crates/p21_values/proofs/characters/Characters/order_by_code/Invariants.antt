use Rattle.std.proofs.Common.{◌≡◌, drop}
use Rattle.std.specs.Cmp.Lexicographic.{slice_cmp}
use Rattle.std.specs.Ordering.{nat_cmp}
use Rattle.p21_values.specs.Plain.{codes}
use Rattle.p21_values.proofs.characters.Characters.order_by_code.Given as goal

abbrev pub invariant-loop-at : goal.invariant-loop-at
invariant-loop-at l = slice_cmp nat_cmp (drop l.at (codes l.self)) (drop l.at (codes l.other)) ≡ slice_cmp nat_cmp (codes l.self) (codes l.other)
