use Rattle.std.proofs.Common.{◌≡◌, drop, length, map}
use Rattle.p21_values.specs.Plain.{plain}
use Rattle.p21_values.specs.Same.{AreBelow, at_places}
use Rattle.p21_values.specs.Sets.{difference_of}
use Rattle.p21_values.proofs.sets.difference.Given as goal

abbrev pub invariant-loop-y : goal.invariant-loop-y
invariant-loop-y l =
    (difference_of (at_places (map plain l.xs) l.left.items) (map plain (drop l.y-index l.ys)) ≡ difference_of (map plain l.xs) (map plain l.ys))
    × AreBelow (length l.xs) l.left.items
