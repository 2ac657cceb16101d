use Rattle.std.proofs.Common.{length, ◌-◌}
use Rattle.p21_schema.specs.Draft.{IsMade}
use Rattle.p21_schema.specs.RowTable.{all_kept, ids_from}
use Rattle.p21_schema.proofs.draft.Draft.keep_own.Given as goal

abbrev pub invariant-loop-index : goal.invariant-loop-index
invariant-loop-index l = IsMade (length l.initial.self.marks.items) l.initial.self.number (all_kept l.initial.self.ids.items (ids_from l.fn.own.from (l.index - l.fn.own.from))) l.self
