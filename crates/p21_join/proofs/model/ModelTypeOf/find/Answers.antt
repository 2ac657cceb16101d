use Rattle.p21_join.specs.Model.{instances_of}
use Rattle.p21_join.proofs.FindLemmas.{finds_named}
use Rattle.p21_join.proofs.model.ModelTypeOf.find.Goals as goal

pub returns : goal.returns
returns c = finds_named (instances_of c.args.self.now) c.args.name c.find.result c.args.self.now.own_names c.find.ensures
