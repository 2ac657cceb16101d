use Rattle.p21_evaluate.proofs.Queries.{none_is_true}
use Rattle.p21_evaluate.proofs.laws.none_is_true.Goals as goal

pub returns : goal.returns
returns c = none_is_true
