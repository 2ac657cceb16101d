use Rattle.std.proofs.Common.{map, take}
use Rattle.p21_tree.specs.Views.{plain_instance}
use Rattle.p21_json.specs.Lines.{AreLines}
use Rattle.p21_json.proofs.lines.write_lines.Given as goal

abbrev pub invariant-loop-instance : goal.invariant-loop-instance
invariant-loop-instance l = AreLines l.terms (map plain_instance (take l.instance-index l.instances)) l.text.items
