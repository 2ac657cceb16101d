use Rattle.std.proofs.Common.{refl}
use Rattle.p21_tree.specs.Plain.{plain}
use Rattle.p21_schema.specs.Row.{attribute_at}
use Rattle.p21_check.specs.Sets.{HasEntity}
use Rattle.p21_check.proofs.Tests.{both}
use Rattle.p21_check.proofs.SlotLemmas.{derived_among, fits_by_each}
use Rattle.p21_check.proofs.BoundLemmas.{derived_fits, lowest_fits, none_fits}
use Rattle.p21_check.proofs.slot.fits_slot.Goals as goal

pub returns-in-Derived : goal.returns-in-Derived
returns-in-Derived c =
    let s = c.args.schema.now in
    let ds = c.declarations-declarations.ensures in
    both c.is_derived.ensures (derived_fits s (HasEntity s c.args.set.now) (attribute_at s c.args.attribute) ds.0 ds.1.0 (c.in-Derived.ensures ds.0 ds.1.1) (plain c.args.param.now))

pub returns-in-By : goal.returns-in-By
returns-in-By c =
    let s = c.args.schema.now in
    let ds = c.declarations-declarations.ensures in
    let d = c.in-By.ensures ds.0 ds.1.1 in
    both (c.fits_form.ensures d.0.form d.1.0.form) (lowest_fits s c.fits.ensures (HasEntity s c.args.set.now) (attribute_at s c.args.attribute) ds.0 ds.1.0 d.0 d.1.1 (plain c.args.param.now))

pub returns-in-Free : goal.returns-in-Free
returns-in-Free c =
    let s = c.args.schema.now in
    let ds = c.declarations-declarations.ensures in
    (λ _. none_fits s (HasEntity s c.args.set.now) (attribute_at s c.args.attribute) ds.0 ds.1.0 (c.in-Free.ensures ds.0 ds.1.1) (plain c.args.param.now), λ _. refl)

pub returns-in-Unsaid : goal.returns-in-Unsaid
returns-in-Unsaid c =
    let s = c.args.schema.now in
    let set = HasEntity s c.args.set.now in
    let o = attribute_at s c.args.attribute in
    let ds = c.declarations-declarations.ensures in
    both (c.fits_each.ensures ds.0 ds.1.1) (fits_by_each s set o ds.0 ds.1.0 (plain c.args.param.now) (λ h. c.in-Unsaid.ensures ds.0 ds.1.1 (derived_among s set o ds.0 ds.1.0 h)))
