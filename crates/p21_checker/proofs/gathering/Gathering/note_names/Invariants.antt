use Rattle.std.proofs.Common.{◌≡◌, ◌≢◌, ◌++◌, [], List, false, map, take}
use Rattle.p21_tree.specs.declared.instances.RawInstance.{RawInstance}
use Rattle.p21_outline.specs.PlacedName.{placed_name}
use Rattle.p21_outline.specs.declared.outline_list.OutlineList.{OutlineList}
use Rattle.p21_reader.specs.Values.{Value}
use Rattle.p21_checker.specs.Checked.{sound_value}
use Rattle.p21_checker.specs.Gathering.{HasGathered}
use Rattle.p21_checker.proofs.gathering.Gathering.note_names.Given as goal

-- those so far are gathered
abbrev pub invariant-loop-named : goal.invariant-loop-named
invariant-loop-named l = record {
  going : l.self.ended ≡ false;
  noted : (vs : List Value) (ls : List OutlineList) (is : List RawInstance) → l.names ≡ map placed_name is → HasGathered l.fn.self vs ls → HasGathered l.self (vs ++ map sound_value (take l.named-index is)) ls × (l.self.faults.items ≢ []);
}
