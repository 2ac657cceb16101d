use Rattle.std.proofs.Common.{◌≡◌, [], length, replicate}
use Rattle.p21_schema.specs.RowTable.{AreRowsOver, AreWithin}
use Rattle.p21_schema.proofs.rows.no_rows.Given as goal

abbrev pub invariant-loop : goal.invariant-loop
invariant-loop l = record {
  count : length l.rows.items ≡ l.counter;
  over : AreRowsOver (replicate l.counter []) l.rows.items;
  within : AreWithin 0 l.rows.items;
}
