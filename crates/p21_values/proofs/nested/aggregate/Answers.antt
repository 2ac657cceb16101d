use Rattle.p21_values.proofs.SetLemmas.{made_is}
use Rattle.p21_values.proofs.nested.aggregate.Goals as goal

pub returns-in-Ok : goal.returns-in-Ok
returns-in-Ok c = made_is c.args.kind c.in-Ok.values c.args.values c.in-Ok.ensures.ok
