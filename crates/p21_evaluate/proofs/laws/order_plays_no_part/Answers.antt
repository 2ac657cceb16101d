use Rattle.p21_evaluate.proofs.Operands.{and_commutes, or_commutes}
use Rattle.p21_evaluate.proofs.laws.order_plays_no_part.Goals as goal

pub returns-clause-and : goal.returns-clause-and
returns-clause-and c = and_commutes

pub returns-clause-or : goal.returns-clause-or
returns-clause-or c = or_commutes
