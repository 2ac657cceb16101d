use Rattle.std.proofs.Common.{◌≡◌, false, List, []}
use Rattle.p21_schema.specs.declared.ids.EntityId.{EntityId}
use Rattle.std.specs.Prelude.{Option}
use Rattle.p21_tree.specs.declared.faults.Fault.{Fault}
use Rattle.p21_tree.specs.declared.instances.RawInstance.{RawInstance}
use Rattle.p21_join.specs.declared.instance_names.InstanceNames.{InstanceNames}
use Rattle.p21_join.specs.Model.{plain_instances}
use Rattle.p21_reader.specs.EveryFault.{GathersFaults}
use Rattle.p21_reader.proofs.FirstFaultLemmas.{none_gathered}
use Rattle.p21_reader.proofs.every_fault.FaultGathering.new.Goals as goal

nothing : (is : List RawInstance) (es : List (Option EntityId)) (names : InstanceNames) (found : List Fault) → is ≡ [] → es ≡ [] → found ≡ [] → GathersFaults [] (plain_instances is) es names found false
nothing is es names found a b d = rw (a, b, d) none_gathered

pub returns : goal.returns
returns c = nothing _ _ _ _ c.with_key.ensures c.new.ensures.items c.new-2.ensures.items
