use Rattle.std.proofs.Common.{None, Some, subst}
use Rattle.std.specs.Prelude.{MatchResult}
use Rattle.p21_tree.specs.Views.{plain_instance}
use Rattle.p21_check.specs.References.{IsReferenceFault, named_in}
use Rattle.p21_join.specs.Model.{plain_instances}
use Rattle.p21_outline.specs.Outline.{outlined_instances}
use Rattle.p21_outline.proofs.outline.Outline.reference_fault.Goals as goal

pub returns : goal.returns
returns c =
    let s = c.args.schema.now in
    let i = plain_instance c.args.instance.now in
    subst (λ o. MatchResult c.check_references_among.result (λ _. IsReferenceFault s (named_in (plain_instances (outlined_instances o))) i None) (λ kind. IsReferenceFault s (named_in (plain_instances (outlined_instances o))) i (Some kind)))
    c.of-view.ensures.outline c.check_references_among.ensures
