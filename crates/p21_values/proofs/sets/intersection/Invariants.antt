use Rattle.std.proofs.Common.{◌≡◌, ◌++◌, drop, length, map}
use Rattle.p21_values.specs.Plain.{plain}
use Rattle.p21_values.specs.Same.{AreBelow, at_places}
use Rattle.p21_values.specs.Sets.{intersection_of}
use Rattle.p21_values.proofs.sets.intersection.Given as goal

abbrev pub invariant-loop-x : goal.invariant-loop-x
invariant-loop-x l =
    (map plain l.found.items ++ intersection_of (map plain (drop l.x-index l.xs)) (at_places (map plain l.ys) l.left.items) ≡ intersection_of (map plain l.xs) (map plain l.ys))
    × AreBelow (length l.ys) l.left.items
