use Rattle.std.proofs.Common.{refl}
use Rattle.std.proofs.lemmas.Bool.{false≢true}
use Rattle.p21_check.specs.References.{named_in}
use Rattle.p21_check.specs.Referred.{plain_reference}
use Rattle.p21_check.specs.Walk.{IsAnswered}
use Rattle.p21_check.specs.declared.referred.Reference.{Reference}
use Rattle.p21_join.specs.Model.{plain_instances}
use Rattle.p21_outline.specs.Outline.{outlined_instances}
use Rattle.p21_outline.proofs.PartLemmas.{all_of, none_at, one_more_at}
use Rattle.p21_outline.proofs.view.OutlineView.are_answered.Goals as goal

pub returns-then-not-is_answered : goal.returns-then-not-is_answered
returns-then-not-is_answered c =
    let view = c.args.self in
    let s = view.schema.now in
    none_at (λ (r : Reference). IsAnswered s (named_in (plain_instances (outlined_instances view.outline.now))) (plain_reference s r)) c.args.references.now c.loop-reference.reference-index _ c.loop-reference-test.true
    (λ answered. false≢true (c.if-not-is_answered.ensures.1 answered))

pub loop-reference-preserved : goal.loop-reference-preserved
loop-reference-preserved c =
    let view = c.args.self in
    let s = view.schema.now in
    one_more_at (λ (r : Reference). IsAnswered s (named_in (plain_instances (outlined_instances view.outline.now))) (plain_reference s r)) c.args.references.now c.loop-reference.reference-index _ c.loop-reference-test.true
    c.loop-reference.invariant (c.if-not-is_answered.ensures.0 refl)

pub returns : goal.returns
returns c =
    let view = c.args.self in
    let s = view.schema.now in
    all_of (λ (r : Reference). IsAnswered s (named_in (plain_instances (outlined_instances view.outline.now))) (plain_reference s r)) c.args.references.now c.loop-reference.reference-index c.loop-reference-test.false c.loop-reference.invariant
