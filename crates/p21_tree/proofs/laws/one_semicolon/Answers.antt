use Rattle.p21_tree.proofs.InOrder.{has_one_semi}
use Rattle.p21_tree.proofs.laws.one_semicolon.Goals as goal

pub returns : goal.returns
returns c = has_one_semi
