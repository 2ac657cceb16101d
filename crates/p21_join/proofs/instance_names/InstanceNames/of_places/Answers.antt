use Rattle.p21_join.proofs.NameLemmas.{names_of_places}
use Rattle.p21_join.proofs.instance_names.InstanceNames.of_places.Goals as goal

pub returns-clause-instances : goal.returns-clause-instances
returns-clause-instances c is placed name = names_of_places c.args.places is placed name
