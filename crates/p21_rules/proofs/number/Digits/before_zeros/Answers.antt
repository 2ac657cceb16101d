use Rattle.std.proofs.Common.{◌∙◌, sym}
use Rattle.p21_rules.proofs.NumberLemmas.{whole_left, back_left}
use Rattle.p21_rules.proofs.number.Digits.before_zeros.Goals as goal

pub returns-then-is_empty : goal.returns-then-is_empty
returns-then-is_empty c = whole_left c.args.self.whole.now c.args.self.fraction.now _ _ c.before_zeros-fraction.ensures (sym c.is_empty.ensures ∙ c.if-is_empty.true) c.before_zeros.ensures

pub returns-else-is_empty : goal.returns-else-is_empty
returns-else-is_empty c = back_left c.args.self.whole.now c.args.self.fraction.now _ c.before_zeros-fraction.ensures (sym c.is_empty.ensures ∙ c.if-is_empty.false)
