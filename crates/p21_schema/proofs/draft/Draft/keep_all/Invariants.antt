use Rattle.std.proofs.Common.{length, take}
use Rattle.p21_schema.specs.Draft.{IsMade}
use Rattle.p21_schema.specs.RowTable.{all_kept}
use Rattle.p21_schema.proofs.draft.Draft.keep_all.Given as goal

abbrev pub invariant-loop-attribute : goal.invariant-loop-attribute
invariant-loop-attribute l = IsMade (length l.initial.self.marks.items) l.initial.self.number (all_kept l.initial.self.ids.items (take l.attribute-index l.attributes)) l.self
