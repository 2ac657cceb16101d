use Rattle.std.proofs.lemmas.Bool.{false≢true}
use Rattle.p21_tree.specs.Plain.{plain}
use Rattle.p21_schema.specs.Row.{attribute_at}
use Rattle.p21_check.specs.Sets.{HasEntity}
use Rattle.p21_check.proofs.Tests.{both}
use Rattle.p21_check.proofs.SlotLemmas.{counts_among, derived_there}
use Rattle.p21_check.proofs.BoundLemmas.{lowest_repeats}
use Rattle.p21_check.proofs.DistinctLemmas.{by_counting, no_list_in_slot}
use Rattle.p21_check.proofs.distinct.repeats_in_slot.Goals as goal

pub returns-then-not-may_have_list : goal.returns-then-not-may_have_list
returns-then-not-may_have_list c =
    let s = c.args.schema.now in
    (λ t. absurd (false≢true t), λ h. absurd (no_list_in_slot s (HasEntity s c.args.set.now) (attribute_at s c.args.attribute) (plain c.args.param.now) (c.may_have_list.ensures c.if-not-may_have_list.true s) h))

pub returns-in-By : goal.returns-in-By
returns-in-By c =
    let s = c.args.schema.now in
    let ds = c.declarations-declarations.ensures in
    let d = c.in-By.ensures ds.0 ds.1.1 in
    both (c.repeats_by_form.ensures d.0.form d.1.0.form) (lowest_repeats s c.fits.ensures (HasEntity s c.args.set.now) (attribute_at s c.args.attribute) ds.0 ds.1.0 d.0 d.1.1 (plain c.args.param.now))

pub returns-in-Unsaid : goal.returns-in-Unsaid
returns-in-Unsaid c =
    let s = c.args.schema.now in
    let ds = c.declarations-declarations.ensures in
    both (c.repeats_by_any.ensures ds.0 ds.1.1) (by_counting s (HasEntity s c.args.set.now) (attribute_at s c.args.attribute) ds.0 ds.1.0 (plain c.args.param.now))

pub returns-in-Derived : goal.returns-in-Derived
returns-in-Derived c =
    let s = c.args.schema.now in
    let ds = c.declarations-declarations.ensures in
    (λ t. absurd (false≢true t), λ h. absurd (h.counts.not_derived (derived_there s (HasEntity s c.args.set.now) (attribute_at s c.args.attribute) ds.0 ds.1.0 (c.in-Derived.ensures ds.0 ds.1.1))))

pub returns-in-Free : goal.returns-in-Free
returns-in-Free c =
    let s = c.args.schema.now in
    let ds = c.declarations-declarations.ensures in (
      λ t. absurd (false≢true t),
      λ h. absurd (let k = counts_among s (HasEntity s c.args.set.now) (attribute_at s c.args.attribute) ds.0 ds.1.0 h.counts in c.in-Free.ensures ds.0 ds.1.1 h.declaration k.0 k.1.0),
    )
