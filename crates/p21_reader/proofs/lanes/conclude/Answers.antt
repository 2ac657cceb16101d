use Rattle.p21_join.specs.Model.{instances_of, plain_instances}
use Rattle.p21_reader.specs.Values.{read, reference}
use Rattle.p21_reader.proofs.LaneLemmas.{sound_instances, own_entities}
use Rattle.p21_reader.proofs.lanes.conclude.Goals as goal

pub first_reference_fault-requires-clause-sound : goal.first_reference_fault-requires-clause-sound
first_reference_fault-requires-clause-sound g c κs lives =
    let given = c.requires.gathered in
    sound_instances (g.E.EntityJudge.judges c.args.judge.now c.args.schema.now) c.args.schema.now given.0 given.1 (plain_instances (instances_of c.in_ok-model.model)) c.requires.finds given.3 (c.in_ok-model.ensures.instances given.1 given.2)

pub first_reference_fault-requires-clause-entities : goal.first_reference_fault-requires-clause-entities
first_reference_fault-requires-clause-entities g c κs lives =
    let given = c.requires.gathered in
    rw (c.in_ok-model.ensures.entities given.1 given.2) (own_entities (g.E.EntityJudge.judges c.args.judge.now c.args.schema.now) c.args.schema.now given.0 given.1 (plain_instances (instances_of c.in_ok-model.model)) given.3 (c.in_ok-model.ensures.instances given.1 given.2))

pub returns-in-None : goal.returns-in-None
returns-in-None g c pieces js gathered stated = read (c.in_ok-model.ensures.instances js gathered) c.in_ok-model.ensures.tail c.in-None.ensures

pub returns : goal.returns
returns g c pieces js gathered stated = reference (c.in_ok-model.ensures.instances js gathered) c.in_ok-model.ensures.tail c.in-Some.ensures
