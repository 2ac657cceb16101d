use Rattle.std.proofs.Common.{◌≡◌, ◌++◌, List, length, map, take}
use Rattle.p21_outline.specs.Placed.{IsPlaced}
use Rattle.p21_outline.specs.PlacedName.{placed_name}
use Rattle.p21_tree.specs.declared.instances.RawInstance.{RawInstance}
use Rattle.p21_outline.proofs.outline.place_names.Given as goal

-- the instances before this one are placed
abbrev pub invariant-loop-index : goal.invariant-loop-index
invariant-loop-index l = (is js : List RawInstance) → l.fn.from ≡ length is → l.fn.names ≡ map placed_name js → IsPlaced l.fn.places is → IsPlaced l.places (is ++ take l.index js)
