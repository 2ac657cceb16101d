use Rattle.std.proofs.Common.{◌<◌, List, length}
use Rattle.p21_schema.specs.declared.ids.AttrId.{AttrId}
use Rattle.p21_schema.specs.RowTable.{AreRowsOver, IsSamePosition, from_of}
use Rattle.p21_schema.proofs.rows.Rows.attribute.Given as goal

abbrev pub invariant-loop-entity : goal.invariant-loop-entity
invariant-loop-entity l = record {
  below : l.entity < length l.self.rows.items;
  same : (all : List (List AttrId)) → AreRowsOver all l.self.rows.items → IsSamePosition all l.fn.entity l.entity l.position;
}

abbrev pub decreases-loop-entity : goal.decreases-loop-entity
decreases-loop-entity l = from_of l.self.rows.items l.entity
