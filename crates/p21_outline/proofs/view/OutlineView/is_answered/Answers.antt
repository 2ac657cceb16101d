use Rattle.p21_check.specs.References.{named_in}
use Rattle.p21_join.specs.Model.{plain_instances}
use Rattle.p21_outline.specs.Outline.{outlined_instances}
use Rattle.p21_outline.proofs.view.OutlineView.is_answered.Goals as goal

pub returns : goal.returns
returns c = c.is_answered.ensures (named_in (plain_instances (outlined_instances c.args.self.outline.now))) c.named.ensures
