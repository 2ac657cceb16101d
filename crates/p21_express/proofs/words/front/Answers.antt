use Rattle.p21_express.proofs.DigitLemmas.{run_digits}
use Rattle.p21_express.proofs.words.front.Goals as goal

pub number-requires : goal.number-requires
number-requires c = rw (c.split_at-then-is_digit.ensures.front, c.digit_len.ensures.value) (run_digits c.args.text.now)
