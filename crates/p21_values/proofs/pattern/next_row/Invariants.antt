use Rattle.std.proofs.Common.{◌≡◌, ◌+◌, ◌≤◌, ◌∷◌, ℕ, List, length, slice_index_or, false}
use Rattle.p21_values.specs.Pattern.{IsRow, end_of, matches}
use Rattle.p21_values.specs.Plain.{codes}
use Rattle.p21_values.specs.declared.pattern.Mark.{Mark}
use Rattle.p21_values.proofs.pattern.next_row.Given as goal

abbrev pub invariant-loop-at : goal.invariant-loop-at
invariant-loop-at l = record {
  long : length l.made.items ≡ l.at + 1;
  rows : (ms : List Mark) → IsRow ms (codes l.text) l.row → (j : ℕ) → j ≤ l.at → slice_index_or l.made.items j false ≡ matches (l.mark ∷ ms) (end_of (codes l.text) j);
}
