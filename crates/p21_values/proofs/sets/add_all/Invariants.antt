use Rattle.std.proofs.Common.{◌≡◌, ◌++◌, map, take}
use Rattle.p21_values.specs.Plain.{plain}
use Rattle.p21_values.proofs.sets.add_all.Given as goal

abbrev pub invariant-loop-value : goal.invariant-loop-value
invariant-loop-value l = map plain l.found.items ≡ map plain l.initial.found.items ++ map plain (take l.value-index l.values)
