use Rattle.std.proofs.Common.{◌-◌, ◌≤◌, length, map}
use Rattle.p21_tree.specs.declared.faults.Fault.{Fault}
use Rattle.p21_tree.specs.Sentence.{IsInstances, deepest}
use Rattle.p21_tree.specs.Views.{plain_instance}
use Rattle.p21_tree.specs.Parts.{Bodies}
use Rattle.p21_tree.specs.Progress.{Covers, Fails}
use Rattle.p21_tree.proofs.data_section.instances.Given as goal

abbrev pub decreases-instances : goal.decreases-instances
decreases-instances l = length l.source.text.now - l.place

abbrev pub invariant-instances : goal.invariant-instances
invariant-instances l = record {
  within : l.place ≤ length l.source.text.now;
  reads : Covers (λ ts. IsInstances deepest ts (map plain_instance l.instances.items)) l.source l.at l.place;
  faults : (f : Fault) → Fails Bodies 64 l.source l.place f → Fails Bodies 64 l.source l.at f;
}
