use Rattle.p21_refs.proofs.all.all_bad_among.Goals as goal

pub returns : goal.returns
returns g c = rw (← c.schema-schema.ensures, ← c.model-model.ensures) c.all_by_places.ensures
