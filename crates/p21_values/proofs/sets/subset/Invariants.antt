use Rattle.std.proofs.Common.{◌≡◌, drop, length, map}
use Rattle.p21_values.specs.Logic.{and_of}
use Rattle.p21_values.specs.Plain.{plain}
use Rattle.p21_values.specs.Same.{AreBelow, at_places}
use Rattle.p21_values.specs.Sets.{subset_of}
use Rattle.p21_values.proofs.sets.subset.Given as goal

abbrev pub invariant-loop-x : goal.invariant-loop-x
invariant-loop-x l =
    (and_of l.all (subset_of (map plain (drop l.x-index l.xs)) (at_places (map plain l.ys) l.left.items)) ≡ subset_of (map plain l.xs) (map plain l.ys))
    × AreBelow (length l.ys) l.left.items
