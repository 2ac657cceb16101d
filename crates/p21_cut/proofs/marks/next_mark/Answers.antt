use Rattle.std.proofs.Common.{arith}
use Rattle.p21_cut.proofs.MarkLemmas.{first_mark, no_mark}
use Rattle.p21_cut.proofs.marks.next_mark.Goals as goal

pub returns-then-marks-ne0 : goal.returns-then-marks-ne0
returns-then-marks-ne0 c =
    first_mark c.args.text.now c.loop-at.at c.marks-marks.result (omega (arith, c.loop-at-test.true)) c.marks-marks.ensures (omega (arith, c.if-marks-ne0.true)) c.loop-at.invariant.nowhere

pub loop-at-preserved : goal.loop-at-preserved
loop-at-preserved c = record {
  within = omega (arith, c.loop-at-test.true);
  nowhere = no_mark c.args.text.now c.loop-at.at (omega (arith, c.loop-at-test.true)) (omega (arith, c.marks-marks.ensures, c.if-marks-ne0.false)) c.loop-at.invariant.nowhere;
}
