use Rattle.p21_text.proofs.SeparatorLemmas.{comment_unit, none_open}
use Rattle.p21_text.proofs.separators.comment.Goals as goal

pub returns-in_err-end : goal.returns-in_err-end
returns-in_err-end c =
    let none = none_open c.args.tail.now c.in_ok-second.body.now c.in_ok-second.second.now c.in_ok-second.ensures.cases.0 (c.in_err-end.ensures) in
    rw c.from_residual-in_err-end.ensures none

pub returns : goal.returns
returns c = comment_unit c.args.tail.now c.in_ok-second.body.now c.in_ok-second.second.now c.in_ok-end.end c.in_ok-second.ensures.cases.0 c.if-second-ne42.false c.in_ok-end.ensures.0 c.in_ok-end.ensures.1
