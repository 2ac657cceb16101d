use Rattle.p21_values.proofs.LogicLaws.{not_twice}
use Rattle.p21_values.proofs.laws.not_twice_is_nothing.Goals as goal

pub returns : goal.returns
returns c = not_twice
