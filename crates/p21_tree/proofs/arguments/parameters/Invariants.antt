use Rattle.std.proofs.Common.{◌-◌, ◌≤◌, length}
use Rattle.p21_tree.specs.Opened.{state_of}
use Rattle.p21_tree.specs.Progress.{Covers}
use Rattle.p21_tree.proofs.ArgumentLemmas.{Leads}
use Rattle.p21_tree.proofs.arguments.parameters.Given as goal

abbrev pub decreases-tokens : goal.decreases-tokens
decreases-tokens l = length l.source.text.now - l.place

abbrev pub invariant-tokens : goal.invariant-tokens
invariant-tokens l = record {
  behind : l.at ≤ l.place;
  within : l.place ≤ length l.source.text.now;
  reads : Covers (Leads l.left (state_of l.nest l.mode)) l.source l.at l.place;
}
