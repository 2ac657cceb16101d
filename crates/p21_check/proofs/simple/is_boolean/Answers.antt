use Rattle.p21_check.proofs.PlainLemmas.{plain_enumeration}
use Rattle.p21_check.proofs.SimpleLemmas.{boolean_by, both}
use Rattle.p21_check.proofs.simple.is_boolean.Goals as goal

pub returns-in-Enumeration : goal.returns-in-Enumeration
returns-in-Enumeration c = λ s. both c.is_boolean_name.ensures (boolean_by s (plain_enumeration _ c.in-Enumeration.is))
