use Rattle.p21_outline.specs.Columns.{instances_in}
use Rattle.p21_outline.proofs.outline.Outline.into_names.Goals as goal

pub returns : goal.returns
returns c = c.of_places.ensures.instances (instances_in c.args.self.columns) c.args.self.placed
