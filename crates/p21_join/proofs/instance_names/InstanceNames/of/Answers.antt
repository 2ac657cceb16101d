use Rattle.p21_join.specs.Joined.{joined}
use Rattle.p21_join.proofs.instance_names.InstanceNames.of.Goals as goal

pub returns : goal.returns
returns c = c.of_places.ensures.instances (joined c.args.joiner) c.into_places.ensures
