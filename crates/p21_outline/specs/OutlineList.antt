-- The outlines of some instances, one after the other.
use Rattle.std.specs.Prelude.{List}
use Rattle.p21_express.specs.Schema.{Schema}
use Rattle.p21_tree.specs.declared.instances.RawInstance.{RawInstance}
use Rattle.p21_outline.specs.declared.outline_list.OutlineList.{OutlineList}
use Rattle.p21_outline.specs.Columns.{AreColumns, instances_in}

-- the instances that are outlined, in order
abbrev pub listed_instances : OutlineList → List RawInstance
listed_instances l = instances_in l.columns

-- they have no fault by themselves against the schema, and what is kept of them is so by the schema
abbrev pub AreListed : Schema → OutlineList → Type 0
AreListed s l = AreColumns s l.columns
