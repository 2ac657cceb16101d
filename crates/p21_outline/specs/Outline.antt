-- The outline of some instances, and what adding those of a list does.
use Rattle.std.specs.Prelude.{◌≡◌, ◌<◌, ◌↔◌, ℕ, List, ◌++◌, Contains, get_or, length, map, take}
use Rattle.p21_express.specs.Schema.{Schema}
use Rattle.p21_tree.specs.declared.instances.RawInstance.{RawInstance}
use Rattle.p21_join.specs.declared.instance_names.InstanceNames.{InstanceNames}
use Rattle.p21_join.specs.InstanceNames.{IsAmong}
use Rattle.p21_join.specs.Joined.{IsNamedIn}
use Rattle.p21_join.specs.Names.{HaveOwnNames}
use Rattle.p21_outline.specs.declared.outline.Extended.{Extended}
use Rattle.p21_outline.specs.declared.outline.Extended.TheVariants.{Whole, Repeated}
use Rattle.p21_outline.specs.declared.outline.Outline.{Outline}
use Rattle.p21_outline.specs.declared.outline_list.OutlineList.{OutlineList}
use Rattle.p21_outline.specs.Columns.{AreColumns, instances_in}
use Rattle.p21_outline.specs.OutlineList.{AreListed, listed_instances}

-- the instances that are outlined, in order
abbrev pub outlined_instances : Outline → List RawInstance
outlined_instances o = instances_in o.columns

-- the instances have no fault by themselves against the schema, and what is kept of them is so by the schema
-- Of each simple instance its entity and its references are kept; each complex one is kept whole.
abbrev pub AreOutlined : Schema → Outline → Type 0
AreOutlined s o = AreColumns s o.columns

-- the instance at this place of the second list is the first that has the name of one before it, and these are the names of all before it
pub record IsFirstRepeated (is js : List RawInstance) (names : InstanceNames) (place : ℕ) : Type 0 where
  pub within : place < length js
  pub own_names : HaveOwnNames (is ++ take place js)
  pub names_are : (name : ℕ) → IsAmong names name ↔ Contains (map (λ i. i.name) (is ++ take place js)) name
  pub repeated : (d : RawInstance) → IsNamedIn (is ++ take place js) (get_or js place d)

-- The instances of the list come after the others, as all have names of their own; or the list is handed back, with the place in it of
-- the first instance that has not, and the names of all before that.
abbrev pub Extends : Outline → OutlineList → Extended → Type 0
Extends old list (Whole new) = (outlined_instances new ≡ outlined_instances old ++ listed_instances list) × ((s : Schema) → AreOutlined s old → AreListed s list → AreOutlined s new)
Extends old list (Repeated names back place) = (back ≡ list) × IsFirstRepeated (outlined_instances old) (listed_instances list) names place
