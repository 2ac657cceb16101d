use Rattle.std.proofs.Common.{rules, sym, subst}
use Rattle.p21_express.specs.Schema as type
use Rattle.p21_check.specs.Conforms.{Conforms}
use Rattle.p21_check.specs.Conforms as conforms
use Rattle.p21_check.proofs.PlainLemmas.{plain_real}
use Rattle.p21_check.proofs.simple.is_real.Goals as goal

pub returns-in-Real : goal.returns-in-Real
returns-in-Real c = λ s. (λ _. subst (Conforms s type.real) (sym (plain_real _ c.in-Real.is)) conforms.real, λ _. search rules)
