use Rattle.std.proofs.Common.{◌≡◌, false, List, []}
use Rattle.p21_tree.specs.declared.faults.Fault.{Fault}
use Rattle.p21_tree.specs.declared.instances.RawInstance.{RawInstance}
use Rattle.p21_join.specs.declared.instance_names.InstanceNames.{InstanceNames}
use Rattle.p21_join.specs.Model.{plain_instances}
use Rattle.p21_checker.specs.Gathering.{GathersFaults}
use Rattle.p21_checker.proofs.GatheringLemmas.{fits_sound, nothing_gathered}
use Rattle.p21_checker.proofs.gathering.Gathering.new.Goals as goal

nothing : (is : List RawInstance) (names : InstanceNames) (found : List Fault) → is ≡ [] → found ≡ [] → GathersFaults [] (plain_instances is) names found false
nothing is names found a b = rw (a, b) nothing_gathered

pub returns : goal.returns
returns c = record {
  faults = nothing _ _ _ c.new.ensures.instances c.new-2.ensures.items;
  fits = fits_sound _ _ [] c.new-2.ensures.items (λ s all. c.new.ensures.fits s);
}
