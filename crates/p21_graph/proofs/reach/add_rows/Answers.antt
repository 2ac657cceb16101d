use Rattle.std.proofs.Common.{◌<◌, get_or, sym, subst}
use Rattle.p21_graph.specs.MemberLaws.{at_place}
use Rattle.p21_graph.proofs.BitLemmas.{like_more}
use Rattle.p21_graph.proofs.ReachLemmas.{rows_more}
use Rattle.p21_graph.proofs.reach.add_rows.Goals as goal

pub add_row-requires-clause-from : goal.add_row-requires-clause-from
add_row-requires-clause-from c =
    let l = c.loop-other in
    let row = get_or c.args.from.now l.other-index 0 in
    subst (λ u. row < u) (sym l.invariant.size.rows) (c.requires.from row (at_place c.args.from.now l.other-index 0 c.loop-other-test.true))

pub loop-other-preserved : goal.loop-other-preserved
loop-other-preserved c =
    let l = c.loop-other in
    record {
      size = like_more c.args.table.now l.table c.add_row.new.self l.invariant.size c.add_row.ensures.size;
      holds = rows_more c.args.table.now l.table c.add_row.new.self c.args.row c.args.from.now l.other-index c.loop-other-test.true l.invariant.holds c.add_row.ensures.holds;
    }
