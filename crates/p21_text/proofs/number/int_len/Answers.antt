use Rattle.std.proofs.Common.{refl}
use Rattle.std.proofs.lemmas.Bool.{false≢true}
use Rattle.p21_text.proofs.NumberLemmas.{signed_int, plain_or_none}
use Rattle.p21_text.proofs.number.int_len.Goals as goal

pub returns-in_ok-digits : goal.returns-in_ok-digits
returns-in_ok-digits c =
    signed_int c.args.text.now c.in_ok-first.tail.now c.in_ok-first.first.now c.in_ok-digits.digits c.in_ok-first.ensures.cases.0 (c.if-is_sign.ensures.0 refl) c.in_ok-digits.ensures.0 c.in_ok-digits.ensures.1

pub returns-else-is_sign : goal.returns-else-is_sign
returns-else-is_sign c =
    plain_or_none c.args.text.now c.in_ok-first.tail.now c.in_ok-first.first.now c.in_ok-first.ensures.cases.0 (λ h. false≢true (c.if-is_sign.ensures.1 h)) c.digits_len-else-is_sign.result c.digits_len-else-is_sign.ensures
