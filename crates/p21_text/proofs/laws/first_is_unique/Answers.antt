use Rattle.p21_text.proofs.UniqueLemmas.{first_once}
use Rattle.p21_text.proofs.laws.first_is_unique.Goals as goal

pub returns : goal.returns
returns c = first_once
