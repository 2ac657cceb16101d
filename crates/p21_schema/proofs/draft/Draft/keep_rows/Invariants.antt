use Rattle.std.proofs.Common.{List, [], length, take}
use Rattle.p21_schema.specs.declared.ids.AttrId.{AttrId}
use Rattle.p21_schema.specs.Draft.{IsMade}
use Rattle.p21_schema.specs.RowTable.{AreRowsOver, all_kept, joined, row_of}
use Rattle.p21_schema.proofs.draft.Draft.keep_rows.Given as goal

abbrev pub invariant-loop-supertype : goal.invariant-loop-supertype
invariant-loop-supertype l = (all : List (List AttrId)) → AreRowsOver all l.rows → IsMade (length l.fn.self.marks.items) l.number (all_kept [] (joined (row_of all) (take l.supertype-index l.supertypes))) l.self
