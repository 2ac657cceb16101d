use Rattle.std.proofs.Common.{take}
use Rattle.p21_schema.specs.SelectItems.{IsItemRow}
use Rattle.p21_schema.proofs.selects.places.Given as goal

abbrev pub invariant-loop-target : goal.invariant-loop-target
invariant-loop-target l = IsItemRow l.unders l.wanted (take l.target-index l.targets) l.row.items
