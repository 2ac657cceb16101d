use Rattle.p21_values.proofs.LogicLaws.{and_commutes, or_commutes, xor_commutes}
use Rattle.p21_values.proofs.laws.order_plays_no_part.Goals as goal

pub returns-clause-and : goal.returns-clause-and
returns-clause-and c = and_commutes

pub returns-clause-or : goal.returns-clause-or
returns-clause-or c = or_commutes

pub returns-clause-xor : goal.returns-clause-xor
returns-clause-xor c = xor_commutes
