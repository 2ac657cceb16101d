use Rattle.std.proofs.lemmas.List.{take_rest}
use Rattle.p21_text.proofs.NumberLemmas.{fraction}
use Rattle.p21_text.proofs.number.fraction_len.Goals as goal

pub returns : goal.returns
returns c = fraction c.args.text.now c.digit_run-digits.result c.exponent_len.result c.digit_run-digits.ensures (rw take_rest at c.exponent_len.ensures)
