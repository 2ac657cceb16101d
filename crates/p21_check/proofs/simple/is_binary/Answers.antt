use Rattle.p21_check.proofs.PlainLemmas.{plain_binary}
use Rattle.p21_check.proofs.SimpleLemmas.{binary_by, both}
use Rattle.p21_check.proofs.simple.is_binary.Goals as goal

pub returns-in-Binary : goal.returns-in-Binary
returns-in-Binary c = λ s. both c.is_as_long.ensures (binary_by s c.args.width (plain_binary _ c.in-Binary.is))
