use Rattle.std.proofs.Common.{◌≡◌, ◌<◌, ◌++◌, ℕ, List, length, reverse}
use Rattle.p21_express.specs.WellFormed.{IsIn}
use Rattle.p21_schema.specs.declared.ids.AttrId.{AttrId}
use Rattle.p21_schema.specs.RowTable.{AreRowsOver, joined, row_of, rest_of, from_of}
use Rattle.p21_schema.proofs.rows.parts.Given as goal

abbrev pub invariant-loop-entity : goal.invariant-loop-entity
invariant-loop-entity l = record {
  below : l.entity < length l.rows;
  within : (e : ℕ) → IsIn l.parts.items e → e < length l.rows;
  whole : (all : List (List AttrId)) → AreRowsOver all l.rows → row_of all l.fn.entity ≡ row_of all l.entity ++ joined (rest_of l.rows) (reverse l.parts.items);
}

abbrev pub decreases-loop-entity : goal.decreases-loop-entity
decreases-loop-entity l = from_of l.rows l.entity
