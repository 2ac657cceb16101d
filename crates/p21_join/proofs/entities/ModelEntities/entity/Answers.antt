use Rattle.std.proofs.Common.{get_or, subst}
use Rattle.p21_tree.specs.Views.{plain_instance}
use Rattle.p21_check.specs.EntityOf.{IsSimpleEntity}
use Rattle.p21_join.specs.Model.{instances_of}
use Rattle.p21_join.proofs.entities.ModelEntities.entity.Goals as goal

pub returns : goal.returns
returns c d =
    subst (λ s. IsSimpleEntity s (plain_instance (get_or (instances_of c.args.self.now.model.now) c.args.i d)) c.entity.result) c.view.ensures.schema
    (subst (λ m. IsSimpleEntity c.view.result.schema.now (plain_instance (get_or (instances_of m) c.args.i d)) c.entity.result) c.view.ensures.model (c.entity.ensures d))
