use Rattle.p21_tree.proofs.TreeLaws as law
use Rattle.p21_tree.proofs.laws.one_tree.Goals as goal

pub returns : goal.returns
returns c = law.one_tree
