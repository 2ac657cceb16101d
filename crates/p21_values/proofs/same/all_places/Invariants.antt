use Rattle.std.proofs.Common.{◌≡◌, drop, length, map, take}
use Rattle.p21_values.specs.Plain.{plain}
use Rattle.p21_values.specs.Same.{AreBelow, at_places}
use Rattle.p21_values.proofs.same.all_places.Given as goal

abbrev pub invariant-loop-at : goal.invariant-loop-at
invariant-loop-at l = (at_places (map plain l.values) l.places.items ≡ take l.at (map plain l.values)) × AreBelow (length l.values) l.places.items
