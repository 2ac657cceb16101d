-- The name of an instance, and where it stands.
use Rattle.p21_tree.specs.declared.instances.RawInstance.{RawInstance}
use Rattle.p21_outline.specs.declared.outline_list.PlacedName.{PlacedName}

-- the name of an instance, with its place
abbrev pub placed_name : RawInstance → PlacedName
placed_name i = record { name = i.name; at = i.at }
