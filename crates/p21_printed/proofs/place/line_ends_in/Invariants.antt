use Rattle.std.proofs.Common.{◌≡◌, ◌+◌}
use Rattle.std.specs.Slice.Iter.{chunks_rest}
use Rattle.p21_printed.specs.Places.{line_ends}
use Rattle.p21_printed.proofs.place.line_ends_in.Given as goal

abbrev pub invariant-loop-block : goal.invariant-loop-block
invariant-loop-block l = l.count + line_ends (chunks_rest l.block-iterator) ≡ line_ends l.text
