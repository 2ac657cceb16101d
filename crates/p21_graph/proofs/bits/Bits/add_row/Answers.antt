use Rattle.std.proofs.Common.{arith}
use Rattle.p21_graph.proofs.BitLemmas.{like_more, row_more}
use Rattle.p21_graph.proofs.bits.Bits.add_row.Goals as goal

pub loop-place-preserved : goal.loop-place-preserved
loop-place-preserved c =
    let l = c.loop-place in
    let like = l.invariant.size in
    record {
      size = like_more c.args.self.now l.self c.add.new.self like c.add.ensures.size;
      holds = row_more c.args.self.now l.self c.add.new.self c.args.row c.args.from l.place c.word.result c.word.ensures (omega (arith, like.width)) l.invariant.holds c.add.ensures.holds;
    }
