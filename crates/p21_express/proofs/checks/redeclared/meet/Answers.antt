use Rattle.std.proofs.Common.{true, [], ◌∷◌, ◌++◌}
use Rattle.p21_express.specs.Again.{HasOrigins, origin_in}
use Rattle.p21_express.specs.WellFormed.{IsIn}
use Rattle.p21_express.proofs.NewNameLemmas.{is_met, origins_more}
use Rattle.p21_express.proofs.checks.redeclared.meet.Goals as goal

pub returns : goal.returns
returns c = λ s os e distinct here h.
    is_met c.in_ok-before.before c.is_some.result (IsIn os (origin_in e c.args.name.now)) (HasOrigins s c.insert.new.self (os ++ origin_in e c.args.name.now ∷ [])) c.is_some.ensures (rw c.in_ok-before.ensures.old (h (c.args.position, c.args.name) e here)) (origins_more s distinct c.args.origins.now c.insert.new.self os (c.args.position, c.args.name) e true here h c.in_ok-before.ensures.updates.0)
