use Rattle.std.proofs.Common.{inr}
use Rattle.p21_rule_text.specs.Resolve.{IsAmong}
use Rattle.p21_rule_text.proofs.ResolveLemmas.{neither}
use Rattle.p21_rule_text.proofs.resolve.among.Goals as goal

pub returns-in-Some : goal.returns-in-Some
returns-in-Some c = IsAmong.own c.in-Some.ensures c.explicit.ensures

pub returns-then-declares_other : goal.returns-then-declares_other
returns-then-declares_other c = IsAmong.new c.in_default.ensures (inr c.if-declares_other.ensures)

pub returns-in-Some-again : goal.returns-in-Some-again
returns-in-Some-again c = IsAmong.again (neither c.in_default.ensures c.if-declares_other.ensures) c.in-Some-again.ensures c.explicit-in-Some-again.ensures

pub returns-then-has_other : goal.returns-then-has_other
returns-then-has_other c = IsAmong.again_other (neither c.in_default.ensures c.if-declares_other.ensures) c.in_default-again.ensures c.if-has_other.ensures

pub returns-else-has_other : goal.returns-else-has_other
returns-else-has_other c = IsAmong.nothing (neither c.in_default.ensures c.if-declares_other.ensures) c.in_default-again.ensures c.if-has_other.ensures
