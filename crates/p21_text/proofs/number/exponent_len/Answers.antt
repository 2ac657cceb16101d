use Rattle.p21_text.proofs.NumberLemmas.{exponent}
use Rattle.p21_text.proofs.number.exponent_len.Goals as goal

pub returns-in-Some-int_len : goal.returns-in-Some-int_len
returns-in-Some-int_len c =
    exponent c.args.text.now c.in-Some.tail.now c.in-Some.first.now c.in-Some-int_len.digits c.in-Some.ensures.cases.0 c.if-first-ne69.false c.in-Some-int_len.ensures
