use Rattle.p21_check.proofs.UniqueLemmas.{header_once}
use Rattle.p21_check.proofs.laws.one_header_fault.Goals as goal

pub returns : goal.returns
returns c = header_once c.items_are_unique.ensures
