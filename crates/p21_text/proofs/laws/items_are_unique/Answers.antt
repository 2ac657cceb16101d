use Rattle.p21_text.proofs.ValueLemmas.{items_once}
use Rattle.p21_text.proofs.laws.items_are_unique.Goals as goal

pub returns : goal.returns
returns c = items_once 1
