use Rattle.p21_check.proofs.UniqueLemmas.{local_once}
use Rattle.p21_check.proofs.laws.one_local_fault.Goals as goal

pub returns : goal.returns
returns c = local_once
