use Rattle.std.proofs.Common.{subst, sym}
use Rattle.p21_join.specs.Names.{IsPosition}
use Rattle.p21_join.proofs.model.Model.position.Goals as goal

pub returns : goal.returns
returns c =
    let m = c.args.self.now in
    subst (IsPosition m.instances.items c.args.name) (sym c.place.ensures) (m.placed c.args.name)
