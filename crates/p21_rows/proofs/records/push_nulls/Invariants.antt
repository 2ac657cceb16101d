use Rattle.std.proofs.Common.{◌≡◌, ◌++◌, replicate}
use Rattle.p21_rows.specs.declared.cell.Cell.TheVariants.{Null}
use Rattle.p21_rows.proofs.records.push_nulls.Given as goal

abbrev pub invariant-loop : goal.invariant-loop
invariant-loop l = l.cells.items ≡ l.initial.cells.items ++ replicate l.counter Null
