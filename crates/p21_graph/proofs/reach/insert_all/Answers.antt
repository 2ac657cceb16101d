use Rattle.std.proofs.Common.{◌<◌, get_or, sym, subst}
use Rattle.p21_graph.specs.MemberLaws.{at_place}
use Rattle.p21_graph.proofs.BitLemmas.{like_more}
use Rattle.p21_graph.proofs.ReachLemmas.{columns_more}
use Rattle.p21_graph.proofs.reach.insert_all.Goals as goal

pub insert-requires-clause-column : goal.insert-requires-clause-column
insert-requires-clause-column c =
    let l = c.loop-column in
    let column = get_or c.args.columns.now l.column-index 0 in
    subst (λ u. column < u) (sym l.invariant.size.columns) (c.requires.columns column (at_place c.args.columns.now l.column-index 0 c.loop-column-test.true))

pub loop-column-preserved : goal.loop-column-preserved
loop-column-preserved c =
    let l = c.loop-column in
    record {
      size = like_more c.args.table.now l.table c.insert.new.self l.invariant.size c.insert.ensures.size;
      holds = columns_more c.args.table.now l.table c.insert.new.self c.args.row c.args.columns.now l.column-index c.loop-column-test.true l.invariant.holds c.insert.ensures.holds;
    }
