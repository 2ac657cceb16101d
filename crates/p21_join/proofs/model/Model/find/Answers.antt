use Rattle.std.proofs.Common.{sym, subst}
use Rattle.p21_join.specs.Model.{Finds}
use Rattle.p21_join.proofs.NameLemmas.{found_at}
use Rattle.p21_join.proofs.model.Model.find.Goals as goal

pub returns-in_err-place : goal.returns-in_err-place
returns-in_err-place c = subst (Finds c.args.self.now.instances.items c.args.name) (sym c.from_residual.ensures) c.in_err-place.ensures

pub returns : goal.returns
returns c = found_at c.args.self.now.instances.items c.args.name c.in_ok-place.place c.index.result.now c.in_ok-place.ensures c.index.ensures
