use Rattle.std.proofs.Common.{◌≡◌, drop, map}
use Rattle.p21_values.specs.Plain.{plain}
use Rattle.p21_values.specs.Sets.{union_of}
use Rattle.p21_values.proofs.sets.union.Given as goal

abbrev pub invariant-loop-y : goal.invariant-loop-y
invariant-loop-y l = union_of (map plain l.found.items) (map plain (drop l.y-index l.ys)) ≡ union_of (map plain l.xs) (map plain l.ys)
