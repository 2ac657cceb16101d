use Rattle.p21_check.proofs.PlainLemmas.{plain_str}
use Rattle.p21_check.proofs.SimpleLemmas.{string_by, both}
use Rattle.p21_check.proofs.simple.is_string.Goals as goal

pub returns-in-Str : goal.returns-in-Str
returns-in-Str c = λ s. both c.is_as_wide.ensures (string_by s c.args.width (plain_str _ c.in-Str.is))
