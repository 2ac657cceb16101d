use Rattle.std.proofs.Common.{◌≡◌, ◌≤◌, take}
use Rattle.std.specs.Prelude.{count_by}
use Rattle.memchr.specs.Find.{is_byte}
use Rattle.p21_printed.proofs.place.line_ends_in_block.Given as goal

abbrev pub invariant-loop-byte : goal.invariant-loop-byte
invariant-loop-byte l = record {
  bound : l.count ≤ l.byte-index;
  so_far : l.count ≡ count_by (is_byte 10) (take l.byte-index l.block);
}
