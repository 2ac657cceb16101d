use Rattle.p21_text.proofs.UniqueLemmas.{tokens_once}
use Rattle.p21_text.proofs.laws.tokens_are_unique.Goals as goal

pub returns : goal.returns
returns c = tokens_once
