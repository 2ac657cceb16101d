use Rattle.std.proofs.Common.{length, arith, get_or}
use Rattle.bstr.proofs.lemmas.PieceLemmas.{size-bounds}
use Rattle.p21_printed.proofs.shown.first_piece.Goals as goal

pub returns-clause-some : goal.returns-clause-some
returns-clause-some c =
    let bs = c.args.bytes.now in
    let bounds = size-bounds (length bs) (get_or bs 0 0) (get_or bs 1 0) (get_or bs 2 0) (get_or bs 3 0) c.requires in
    omega (arith, bounds.0, c.decode.ensures.size)

pub returns-clause-within : goal.returns-clause-within
returns-clause-within c =
    let bs = c.args.bytes.now in
    let bounds = size-bounds (length bs) (get_or bs 0 0) (get_or bs 1 0) (get_or bs 2 0) (get_or bs 3 0) c.requires in
    omega (arith, bounds.2, c.decode.ensures.size)
