use Rattle.p21_values.proofs.SetLemmas.{instance_is}
use Rattle.p21_values.proofs.nested.made.Goals as goal

pub returns-in-Ok : goal.returns-in-Ok
returns-in-Ok c = instance_is c.args.entity c.in-Ok.values c.args.values c.in-Ok.ensures.ok
