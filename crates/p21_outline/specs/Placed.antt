-- The places of names, and what placing those of a list finds.
use Rattle.std.specs.Prelude.{◌<◌, ℕ, List, ◌++◌, Option, Some, None, get_or, length, take}
use Rattle.p21_tree.specs.declared.instances.RawInstance.{RawInstance}
use Rattle.p21_join.specs.declared.instance_places.InstancePlaces.{InstancePlaces}
use Rattle.p21_join.specs.Joined.{IsNamedIn}
use Rattle.p21_join.specs.Names.{HasPlacesOf, HaveOwnNames}

-- the table has the places of these instances, of which no two have one name
abbrev pub IsPlaced : InstancePlaces → List RawInstance → Type 0
IsPlaced places is = HasPlacesOf places is × HaveOwnNames is

-- the instances of the second list were placed after the others, up to the first that has the name of one before it, if there is one
abbrev pub FindsRepeated : InstancePlaces → List RawInstance → List RawInstance → Option ℕ → Type 0
FindsRepeated places is js None = IsPlaced places (is ++ js)
FindsRepeated places is js (Some k) = (k < length js) × IsPlaced places (is ++ take k js) × ((d : RawInstance) → IsNamedIn (is ++ take k js) (get_or js k d))
