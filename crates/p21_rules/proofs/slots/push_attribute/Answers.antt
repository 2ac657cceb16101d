use Rattle.std.proofs.Common.{get_or, ◌∙◌, arith}
use Rattle.p21_schema.specs.Row.{attribute_at}
use Rattle.p21_tree.specs.Plain.{plain}
use Rattle.p21_tree.specs.Views.{plain_instance}
use Rattle.p21_rules.specs.Slots.{no_declaration}
use Rattle.p21_rules.proofs.DeclarationLemmas.{back_below, form_at}
use Rattle.p21_rules.proofs.SlotLemmas.{all_pushed, no_longer, none_counts, not_by, not_pushed}
use Rattle.p21_rules.proofs.slots.push_attribute.Goals as goal

pub returns-in_default : goal.returns-in_default
returns-in_default c =
    let ds = c.declarations.ensures in
    none_counts c.items_are_unique.ensures c.args.schema.now c.fits.ensures (plain_instance c.args.instance.now) (attribute_at c.args.schema.now c.args.attribute) (plain c.args.param.now) ds.0 ds.1.0 (c.in_default.ensures ds.0 ds.1.1)

pub bounds-slot-place : goal.bounds-slot-place
bounds-slot-place c =
    let ds = c.declarations.ensures in
    back_below c.args.schema.now c.declarations.result.now ds.0 ds.1.1 c.in-Some.place (c.in-Some.ensures ds.0 ds.1.1).0

pub offset_bounds-slot-place : goal.offset_bounds-slot-place
offset_bounds-slot-place c =
    let ds = c.declarations.ensures in
    let less = back_below c.args.schema.now c.declarations.result.now ds.0 ds.1.1 c.in-Some.place (c.in-Some.ensures ds.0 ds.1.1).0 in
    omega (arith, less)

pub push_by-requires-clause-form : goal.push_by-requires-clause-form
push_by-requires-clause-form c =
    let ds = c.declarations.ensures in
    let place = c.in-Some.place in
    ((get_or ds.0 place no_declaration).form, form_at c.args.schema.now c.declarations.result.now ds.0 ds.1.1 place c.index-slot-place.result (c.in-Some.ensures ds.0 ds.1.1).0)

pub returns-then-not-branch : goal.returns-then-not-branch
returns-then-not-branch c =
    let s = c.args.schema.now in
    let ds = c.declarations.ensures in
    let place = c.in-Some.place in
    let f = (get_or ds.0 place no_declaration).form in
    let t = plain c.args.param.now in
    let counts = c.in-Some.ensures ds.0 ds.1.1 in
    let resolved = form_at s c.declarations.result.now ds.0 ds.1.1 place c.index-slot-place.result counts.0 in
    let one = c.items_are_unique.ensures in
    not_pushed one s c.fits.ensures (plain_instance c.args.instance.now) (attribute_at s c.args.attribute) t ds.0 ds.1.0 place counts.0 counts.1
    (λ v. not_by one s c.fits.ensures f t _ _ _ v (c.in_ok-push_by.ensures f resolved) c.if-not-branch.true)

pub slice_bounds-agree-count : goal.slice_bounds-agree-count
slice_bounds-agree-count c =
    let s = c.args.schema.now in
    let ds = c.declarations.ensures in
    let place = c.in-Some.place in
    let f = (get_or ds.0 place no_declaration).form in
    let resolved = form_at s c.declarations.result.now ds.0 ds.1.1 place c.index-slot-place.result (c.in-Some.ensures ds.0 ds.1.1).0 in
    no_longer s f (plain c.args.param.now) _ _ _ _ _ (c.in_ok-push_by.ensures f resolved) c.if-not-branch.false (c.len-from.ensures ∙ c.args.code.now.ok.0) c.deref.ensures.value

pub slice_bounds-agree-start : goal.slice_bounds-agree-start
slice_bounds-agree-start c =
    let s = c.args.schema.now in
    let ds = c.declarations.ensures in
    let place = c.in-Some.place in
    let f = (get_or ds.0 place no_declaration).form in
    let resolved = form_at s c.declarations.result.now ds.0 ds.1.1 place c.index-slot-place.result (c.in-Some.ensures ds.0 ds.1.1).0 in
    no_longer s f (plain c.args.param.now) _ _ _ _ _ (c.in_ok-push_by.ensures f resolved) c.if-not-branch.false (c.len-from.ensures ∙ c.args.code.now.ok.0) c.deref.ensures.value

pub returns : goal.returns
returns c =
    let s = c.args.schema.now in
    let ds = c.declarations.ensures in
    let place = c.in-Some.place in
    let f = (get_or ds.0 place no_declaration).form in
    let counts = c.in-Some.ensures ds.0 ds.1.1 in
    let resolved = form_at s c.declarations.result.now ds.0 ds.1.1 place c.index-slot-place.result counts.0 in
    all_pushed c.items_are_unique.ensures s c.fits.ensures (plain_instance c.args.instance.now) (attribute_at s c.args.attribute) (plain c.args.param.now) ds.0 ds.1.0 place counts.0 counts.1
    c.agree.result _ _ c.deref.result.now c.len-from.result _ (c.in_ok-push_by.ensures f resolved) c.if-not-branch.false (c.len-from.ensures ∙ c.args.code.now.ok.0) c.deref.ensures.value (λ v e m. c.agree.ensures ds.0 v ds.1.1 e m)
