use Rattle.p21_evaluate.proofs.Depth.{meaning_deep, does_deepens}
use Rattle.p21_evaluate.proofs.laws.depth_plays_no_part.Goals as goal

pub returns-clause-expressions : goal.returns-clause-expressions
returns-clause-expressions c = meaning_deep

pub returns-clause-statements : goal.returns-clause-statements
returns-clause-statements c = does_deepens
