use Rattle.p21_reader.proofs.all_faults.reference_faults.Goals as goal

pub returns : goal.returns
returns g c = rw (← c.of-entities.ensures.schema, ← c.of-entities.ensures.model) c.all_bad_among.ensures
