use Rattle.std.proofs.lemmas.List.{take_all}
use Rattle.p21_printed.proofs.LineEndLemmas.{line_ends_counted}
use Rattle.p21_printed.proofs.place.line_ends_in_block.Goals as goal

pub returns : goal.returns
returns c =
    let block = c.args.block.now in
    let whole = take_all c.loop-byte.byte-index block c.loop-byte-test.false in
    let count = line_ends_counted block in
    cc
