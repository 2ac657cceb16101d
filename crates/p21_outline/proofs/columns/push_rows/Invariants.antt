use Rattle.std.proofs.Common.{◌≡◌, ◌++◌, List, map}
use Rattle.std.specs.Vec.Iter.{into_iter_items, into_iter_len}
use Rattle.p21_outline.specs.declared.columns.Row.{Row}
use Rattle.p21_outline.specs.Rows.{row_behind}
use Rattle.p21_outline.proofs.columns.push_rows.Given as goal

-- the rows that are moved, and after them those that are left
abbrev pub invariant-loop-row : goal.invariant-loop-row
invariant-loop-row l =
    (moved : List Row) × (moved ++ into_iter_items l.left ≡ l.fn.more.items)
    × (l.rows.items ≡ l.fn.rows.items ++ map (row_behind l.start l.first) moved)

-- each turn moves one
abbrev pub decreases-loop-row : goal.decreases-loop-row
decreases-loop-row l = into_iter_len l.left
