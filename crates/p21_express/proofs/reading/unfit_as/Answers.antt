use Rattle.std.proofs.Common.{sym, subst}
use Rattle.p21_express.specs.declared.misfit.Unfit.{Unfit}
use Rattle.p21_express.specs.Misfit.{IsUnfitAs}
use Rattle.p21_express.proofs.reading.unfit_as.Goals as goal

pub returns-in-Found : goal.returns-in-Found
returns-in-Found c = λ n within. subst (λ (u : Unfit). IsUnfitAs n u c.misfit_error.result) (sym c.in-Found.is) (c.place_at.result, c.misfit_error.ensures, c.place_at.ensures n within)
