use Rattle.std.proofs.Common.{◌≡◌, ◌<◌, ℕ, List, length, reverse, vec_len}
use Rattle.p21_express.specs.WellFormed.{IsIn}
use Rattle.p21_schema.specs.declared.ids.AttrId.{AttrId}
use Rattle.p21_schema.specs.Draft.{IsMade}
use Rattle.p21_schema.specs.RowTable.{AreRowsOver, all_kept, joined, row_of, rest_of}
use Rattle.p21_schema.proofs.draft.Draft.keep_row.Given as goal

abbrev pub invariant-loop-part : goal.invariant-loop-part
invariant-loop-part l = record {
  made : IsMade (length l.initial.self.marks.items) l.initial.self.number l.self.ids.items l.self;
  within : (e : ℕ) → IsIn l.parts.items e → e < length l.rows;
  left : (all : List (List AttrId)) → AreRowsOver all l.rows → all_kept l.self.ids.items (joined (rest_of l.rows) (reverse l.parts.items)) ≡ all_kept l.initial.self.ids.items (row_of all l.entity);
}

abbrev pub decreases-loop-part : goal.decreases-loop-part
decreases-loop-part l = vec_len l.parts
