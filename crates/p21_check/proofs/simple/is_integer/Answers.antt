use Rattle.std.proofs.Common.{rules, sym, subst}
use Rattle.p21_express.specs.Schema as type
use Rattle.p21_check.specs.Conforms.{Conforms}
use Rattle.p21_check.specs.Conforms as conforms
use Rattle.p21_check.proofs.PlainLemmas.{plain_int}
use Rattle.p21_check.proofs.simple.is_integer.Goals as goal

pub returns-in-Int : goal.returns-in-Int
returns-in-Int c = λ s. (λ _. subst (Conforms s type.integer) (sym (plain_int _ c.in-Int.is)) conforms.integer, λ _. search rules)
