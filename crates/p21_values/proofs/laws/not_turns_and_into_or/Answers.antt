use Rattle.p21_values.proofs.LogicLaws.{not_and, not_or}
use Rattle.p21_values.proofs.laws.not_turns_and_into_or.Goals as goal

pub returns-clause-and : goal.returns-clause-and
returns-clause-and c = not_and

pub returns-clause-or : goal.returns-clause-or
returns-clause-or c = not_or
