use Rattle.std.proofs.Common.{◌-◌, ◌≤◌, List, length}
use Rattle.p21_text.specs.Tokens.{Placed, Tokens}
use Rattle.p21_text.proofs.laws.one_list.Given as goal

-- a list from where the walk stands gives one from where it began
abbrev pub invariant-loop-place : goal.invariant-loop-place
invariant-loop-place l = record {
  within : l.place ≤ length l.text;
  goes : (ts : List Placed) → Tokens l.text l.place ts → (us : List Placed) × Tokens l.text l.at us;
}

abbrev pub decreases-loop-place : goal.decreases-loop-place
decreases-loop-place l = length l.text - l.place
