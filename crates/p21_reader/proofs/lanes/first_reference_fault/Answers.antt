use Rattle.p21_reader.proofs.lanes.first_reference_fault.Goals as goal

pub returns : goal.returns
returns g c = rw (← c.of-entities.ensures.schema, ← c.of-entities.ensures.model) c.first_bad_among.ensures
