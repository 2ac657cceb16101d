use Rattle.std.proofs.Common.{take}
use Rattle.std.specs.Prelude.{All}
use Rattle.p21_check.specs.References.{named_in}
use Rattle.p21_check.specs.Referred.{plain_reference}
use Rattle.p21_check.specs.Walk.{IsAnswered}
use Rattle.p21_join.specs.Model.{plain_instances}
use Rattle.p21_outline.specs.Outline.{outlined_instances}
use Rattle.p21_outline.proofs.view.OutlineView.are_answered.Given as goal

-- the references before this one are answered
abbrev pub invariant-loop-reference : goal.invariant-loop-reference
invariant-loop-reference l = All (λ r. IsAnswered l.self.schema.now (named_in (plain_instances (outlined_instances l.self.outline.now))) (plain_reference l.self.schema.now r)) (take l.reference-index l.references)
