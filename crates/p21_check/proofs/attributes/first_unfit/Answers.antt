use Rattle.std.proofs.Common.{◌<◌, get_or, length, sym, subst, ◌∙◌, arith}
use Rattle.std.proofs.lemmas.Bool.{false≢true}
use Rattle.p21_tree.specs.declared.params.Param.{Param}
use Rattle.p21_tree.specs.Plain.{plain, plain_all}
use Rattle.p21_schema.specs.Row.{attribute_at}
use Rattle.p21_check.specs.Slot.{FitsSlot}
use Rattle.p21_check.specs.Sets.{HasEntity}
use Rattle.p21_check.specs.Instances.{IsUnfitAt}
use Rattle.p21_check.proofs.AttributeLemmas.{unfit_here, fit_here, none_behind, none_more, none_all}
use Rattle.p21_check.proofs.attributes.first_unfit.Goals as goal

pub returns-then-not-fits_slot : goal.returns-then-not-fits_slot
returns-then-not-fits_slot c = λ os a.
    let i = c.loop-position.position in
    let x = c.index-params-position.result in
    let S = HasEntity c.args.schema.now c.args.set.now in
    let o = attribute_at c.args.schema.now c.attribute-attribute.result in
    let less : i < length c.args.params.now = omega arith in
    let unfit : ¬ (FitsSlot c.args.schema.now S o (plain (get_or c.args.params.now i x))) = subst (λ (p : Param). ¬ (FitsSlot c.args.schema.now S o (plain p))) c.index-params-position.is (λ h. false≢true (sym c.if-not-fits_slot.true ∙ c.fits_slot.ensures.1 h)) in
    (unfit_here c.args.schema.now S os c.args.params.now i x o less (c.attribute-attribute.ensures.there os a) unfit, c.loop-position.invariant os a)

pub loop-position-preserved : goal.loop-position-preserved
loop-position-preserved c = λ os a.
    let i = c.loop-position.position in
    let x = c.index-params-position.result in
    let S = HasEntity c.args.schema.now c.args.set.now in
    let o = attribute_at c.args.schema.now c.attribute-attribute.result in
    let less : i < length c.args.params.now = omega arith in
    let fit : FitsSlot c.args.schema.now S o (plain (get_or c.args.params.now i x)) = subst (λ (p : Param). FitsSlot c.args.schema.now S o (plain p)) c.index-params-position.is (c.fits_slot.ensures.0 c.if-not-fits_slot.false) in
    none_more (IsUnfitAt c.args.schema.now S os (plain_all c.args.params.now)) i (c.loop-position.invariant os a) (fit_here c.args.schema.now S os c.args.params.now i x o less (c.attribute-attribute.ensures.there os a) fit)

pub returns : goal.returns
returns c = λ os a b.
    let S = HasEntity c.args.schema.now c.args.set.now in
    none_all (IsUnfitAt c.args.schema.now S os (plain_all c.args.params.now)) c.loop-position.position (c.loop-position.invariant os a) (λ k h. none_behind c.args.schema.now S os c.args.params.now k (omega arith)) b
