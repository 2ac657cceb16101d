use Rattle.p21_text.proofs.OneStringLemmas.{one_string}
use Rattle.p21_text.proofs.laws.one_string.Goals as goal

pub returns : goal.returns
returns c = one_string
