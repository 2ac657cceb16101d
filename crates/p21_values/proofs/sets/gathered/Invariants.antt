use Rattle.std.proofs.Common.{◌≡◌, map, take}
use Rattle.p21_values.specs.Plain.{plain}
use Rattle.p21_values.specs.Same.{at_places}
use Rattle.p21_values.proofs.sets.gathered.Given as goal

abbrev pub invariant-loop-place : goal.invariant-loop-place
invariant-loop-place l = map plain l.found.items ≡ at_places (map plain l.values) (take l.place-index l.places)
