use Rattle.std.proofs.Common.{◌-◌, ◌≤◌, length, map}
use Rattle.p21_tree.specs.declared.faults.Fault.{Fault}
use Rattle.p21_tree.specs.Sentence.{IsEntities, deepest}
use Rattle.p21_tree.specs.Views.{plain_entity}
use Rattle.p21_tree.specs.Parts.{HeaderRest}
use Rattle.p21_tree.specs.Progress.{Covers, Fails}
use Rattle.p21_tree.proofs.header_section.entities.Given as goal

abbrev pub decreases-entities : goal.decreases-entities
decreases-entities l = length l.source.text.now - l.place

abbrev pub invariant-entities : goal.invariant-entities
invariant-entities l = record {
  within : l.place ≤ length l.source.text.now;
  reads : Covers (λ ts. IsEntities deepest ts (map plain_entity l.entities.items)) l.source l.at l.place;
  faults : (f : Fault) → Fails HeaderRest 64 l.source l.place f → Fails HeaderRest 64 l.source l.at f;
}
