use Rattle.std.proofs.Common.{arith}
use Rattle.p21_text.proofs.BinaryLemmas.{bounds_of}
use Rattle.p21_text.proofs.binary.binary_bits.Goals as goal

pub overflow_sub-result : goal.overflow_sub-result
overflow_sub-result c = (bounds_of c.args.raw.now c.requires).some

pub bounds-raw-0 : goal.bounds-raw-0
bounds-raw-0 c = (bounds_of c.args.raw.now c.requires).some

pub overflow_sub-raw : goal.overflow_sub-raw
overflow_sub-raw c = (bounds_of c.args.raw.now c.requires).digit

pub overflow_sub-result-2 : goal.overflow_sub-result-2
overflow_sub-result-2 c = let padded = (bounds_of c.args.raw.now c.requires).padded in omega (arith, c.from.ensures)
