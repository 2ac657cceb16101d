use Rattle.std.proofs.Common.{refl}
use Rattle.p21_rule_text.proofs.inverse.passed_over.Goals as goal

pub returns-clause-ok : goal.returns-clause-ok
returns-clause-ok c = (_, refl, refl, refl, c.in_ok-from_slice.ensures.items, c.in_ok-from_slice-2.ensures.items, c.in_ok-from_slice-3.ensures.items)
