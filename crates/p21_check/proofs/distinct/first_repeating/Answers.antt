use Rattle.std.proofs.Common.{◌<◌, get_or, length, sym, subst, ◌∙◌, arith}
use Rattle.std.proofs.lemmas.Bool.{false≢true}
use Rattle.p21_tree.specs.declared.params.Param.{Param}
use Rattle.p21_tree.specs.Plain.{plain, plain_all}
use Rattle.p21_schema.specs.Row.{attribute_at}
use Rattle.p21_check.specs.Repeats.{RepeatsInSlot}
use Rattle.p21_check.specs.Sets.{HasEntity}
use Rattle.p21_check.specs.Instances.{IsRepeatingAt}
use Rattle.p21_check.proofs.AttributeLemmas.{none_more, none_all}
use Rattle.p21_check.proofs.DistinctLemmas.{repeating_here, not_repeating_here, none_repeating_behind}
use Rattle.p21_check.proofs.distinct.first_repeating.Goals as goal

pub returns-then-repeats_in_slot : goal.returns-then-repeats_in_slot
returns-then-repeats_in_slot c = λ os a.
    let i = c.loop-position.position in
    let x = c.index-params-position.result in
    let S = HasEntity c.args.schema.now c.args.set.now in
    let o = attribute_at c.args.schema.now c.attribute-attribute.result in
    let less : i < length c.args.params.now = omega arith in
    let this : RepeatsInSlot c.args.schema.now S o (plain (get_or c.args.params.now i x)) = subst (λ (p : Param). RepeatsInSlot c.args.schema.now S o (plain p)) c.index-params-position.is (c.repeats_in_slot.ensures.0 c.if-repeats_in_slot.true) in
    (repeating_here c.args.schema.now S os c.args.params.now i x o less (c.attribute-attribute.ensures.there os a) this, c.loop-position.invariant os a)

pub loop-position-preserved : goal.loop-position-preserved
loop-position-preserved c = λ os a.
    let i = c.loop-position.position in
    let x = c.index-params-position.result in
    let S = HasEntity c.args.schema.now c.args.set.now in
    let o = attribute_at c.args.schema.now c.attribute-attribute.result in
    let less : i < length c.args.params.now = omega arith in
    let none : ¬ (RepeatsInSlot c.args.schema.now S o (plain (get_or c.args.params.now i x))) = subst (λ (p : Param). ¬ (RepeatsInSlot c.args.schema.now S o (plain p))) c.index-params-position.is (λ h. false≢true (sym c.if-repeats_in_slot.false ∙ c.repeats_in_slot.ensures.1 h)) in
    none_more (IsRepeatingAt c.args.schema.now S os (plain_all c.args.params.now)) i (c.loop-position.invariant os a) (not_repeating_here c.args.schema.now S os c.args.params.now i x o less (c.attribute-attribute.ensures.there os a) none)

pub returns : goal.returns
returns c = λ os a b.
    let S = HasEntity c.args.schema.now c.args.set.now in
    none_all (IsRepeatingAt c.args.schema.now S os (plain_all c.args.params.now)) c.loop-position.position (c.loop-position.invariant os a) (λ k h. none_repeating_behind c.args.schema.now S os c.args.params.now k (omega arith)) b
