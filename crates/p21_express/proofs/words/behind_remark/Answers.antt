use Rattle.std.proofs.Common.{◌+◌, sym, ◌∙◌, arith}
use Rattle.std.proofs.lemmas.List.{take_rest}
use Rattle.p21_express.proofs.RemarkLemmas.{remark_opens, remark_closes, remark_done, remark_goes, remark_none}
use Rattle.p21_express.proofs.words.behind_remark.Goals as goal

pub loop-at-preserved-then-opens_remark : goal.loop-at-preserved-then-opens_remark
loop-at-preserved-then-opens_remark c =
    (omega arith, omega arith, remark_opens c.args.text.now c.loop-at.at c.loop-at.depth c.loop-at-test.true (sym c.opens_remark.ensures ∙ c.if-opens_remark.true) ∙ c.loop-at.invariant.2)

pub returns-then-depth-eq0 : goal.returns-then-depth-eq0
returns-then-depth-eq0 c =
    rw (take_rest c.args.text.now (c.loop-at.at + 2)) (sym (remark_done c.args.text.now c.loop-at.at c.loop-at.depth c.loop-at-test.true c.if-depth-eq0.true (sym c.opens_remark.ensures ∙ c.if-opens_remark.false) (sym c.closes_remark.ensures ∙ c.if-closes_remark.true)) ∙ c.loop-at.invariant.2)

pub loop-at-preserved-then-closes_remark : goal.loop-at-preserved-then-closes_remark
loop-at-preserved-then-closes_remark c =
    (omega arith, omega arith, remark_closes c.args.text.now c.loop-at.at c.loop-at.depth c.loop-at-test.true c.if-depth-eq0.false (sym c.opens_remark.ensures ∙ c.if-opens_remark.false) (sym c.closes_remark.ensures ∙ c.if-closes_remark.true) ∙ c.loop-at.invariant.2)

pub loop-at-preserved : goal.loop-at-preserved
loop-at-preserved c =
    (omega arith, omega arith, remark_goes c.args.text.now c.loop-at.at c.loop-at.depth c.loop-at-test.true (sym c.opens_remark.ensures ∙ c.if-opens_remark.false) (sym c.closes_remark.ensures ∙ c.if-closes_remark.false) ∙ c.loop-at.invariant.2)

pub returns : goal.returns
returns c = sym (remark_none c.args.text.now c.loop-at.at c.loop-at.depth c.loop-at-test.false) ∙ c.loop-at.invariant.2
