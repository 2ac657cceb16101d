use Rattle.p21_check.proofs.UniqueLemmas.{reference_once}
use Rattle.p21_check.proofs.laws.one_reference_fault.Goals as goal

pub returns : goal.returns
returns c = reference_once
