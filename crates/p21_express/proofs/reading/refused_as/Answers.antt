use Rattle.std.proofs.Common.{sym, subst}
use Rattle.p21_express.specs.declared.refusal.Refusal.{Refusal}
use Rattle.p21_express.specs.Misfit.{IsRefusedAs}
use Rattle.p21_express.proofs.reading.refused_as.Goals as goal

pub returns-in-Refused : goal.returns-in-Refused
returns-in-Refused c = λ n within. subst (λ (r : Refusal). IsRefusedAs n r c.form_error.result) (sym c.in-Refused.is) (c.place_at.result, c.form_error.ensures, c.place_at.ensures n within)
