use Rattle.p21_export.proofs.ModelLemmas.{known_read}
use Rattle.p21_export.proofs.laws.instances_are_known.Goals as goal

pub returns : goal.returns
returns c = known_read
