use Rattle.std.proofs.Common.{arith}
use Rattle.p21_rules.proofs.NumberLemmas.{digits_within}
use Rattle.p21_rules.proofs.number.push_real.Goals as goal

pub push_decimal-requires-clause-digits : goal.push_decimal-requires-clause-digits
push_decimal-requires-clause-digits c = digits_within c.args.text.now _ _ _ _ _ (omega arith) c.parted.ensures.before c.parted-2.ensures.before c.parted-2.ensures.behind c.unsigned.ensures
