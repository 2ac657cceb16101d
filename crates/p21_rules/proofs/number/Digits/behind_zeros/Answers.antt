use Rattle.std.proofs.Common.{◌∙◌, sym}
use Rattle.p21_rules.proofs.NumberLemmas.{fraction_left, front_left}
use Rattle.p21_rules.proofs.number.Digits.behind_zeros.Goals as goal

pub returns-then-is_empty : goal.returns-then-is_empty
returns-then-is_empty c = fraction_left c.args.self.whole.now c.args.self.fraction.now _ _ c.behind_zeros-whole.ensures (sym c.is_empty.ensures ∙ c.if-is_empty.true) c.behind_zeros.ensures

pub returns-else-is_empty : goal.returns-else-is_empty
returns-else-is_empty c = front_left c.args.self.whole.now c.args.self.fraction.now _ c.behind_zeros-whole.ensures (sym c.is_empty.ensures ∙ c.if-is_empty.false)
