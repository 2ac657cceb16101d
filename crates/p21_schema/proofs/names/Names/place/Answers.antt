use Rattle.p21_schema.proofs.NameLemmas.{found}
use Rattle.p21_schema.proofs.names.Names.place.Goals as goal

pub returns : goal.returns
returns c = rw (← c.self.view_is) (found c.self.inside.set.keys c.args.name.now c.get_index_of.result c.get_index_of.ensures.index c.get_index_of.ensures.found)
