use Rattle.std.proofs.Common.{List, sym, subst}
use Rattle.p21_crew.specs.Run.{IsRun}
use Rattle.p21_reader.specs.declared.judged.Judged.{Judged}
use Rattle.p21_reader.proofs.run.run_lanes.Goals as goal

pub returns : goal.returns
returns g c =
    let all = c.in_ok-run.ensures in
    let run = c.in_ok-run.run' in
    let Gathered : List Judged → Type 0 = λ outs. IsRun (g.J.Judge.judges c.args.judge.now) c.args.lanes all.0 outs run.dealt.items run.receipts.items run.returned.items in
    record {
      pieces = all.0;
      cutting = c.new-pieces.ensures.of_file all.0 run.tail all.2;
      by_lanes = subst Gathered (sym all.4) all.3;
    }
