use Rattle.std.proofs.Common.{subst}
use Rattle.p21_schema.specs.Declaration.{IsResolvedForm}
use Rattle.p21_schema.specs.Row.{attribute_at}
use Rattle.p21_schema.specs.declared.declarations.Form.{Form as Coded}
use Rattle.p21_check.specs.WalkRecord.{SetOf, WalksSlot}
use Rattle.p21_check.proofs.PassedLemmas.{ok_some, some_then}
use Rattle.p21_check.proofs.SlotLemmas.{explicit_form}
use Rattle.p21_check.proofs.WalkRecordLemmas.{slot_of_star, slot_of_value}
use Rattle.p21_check.proofs.walk_record.walk_slot.Goals as goal

pub wanted_by-wanted-requires : goal.wanted_by-wanted-requires
wanted_by-wanted-requires c =
    let s = c.args.schema.now in
    let ds = c.declarations-declarations.ensures in
    let d = c.in-By.ensures ds.0 ds.1.1 in
    let f = explicit_form s c.in-Explicit.optional c.in-Explicit.texpr d.0.form (subst (λ (g : Coded). IsResolvedForm s g d.0.form) c.in-Explicit.is d.1.0.form) in
    (f.0, f.2)

pub walk_value-requires-clause-known : goal.walk_value-requires-clause-known
walk_value-requires-clause-known c =
    let s = c.args.schema.now in
    let ds = c.declarations-declarations.ensures in
    let d = c.in-By.ensures ds.0 ds.1.1 in
    let f = explicit_form s c.in-Explicit.optional c.in-Explicit.texpr d.0.form (subst (λ (g : Coded). IsResolvedForm s g d.0.form) c.in-Explicit.is d.1.0.form) in
    (f.0, f.2)

pub returns-in-Explicit-clause-walked : goal.returns-in-Explicit-clause-walked
returns-in-Explicit-clause-walked c g =
    let s = c.args.schema.now in
    let S = SetOf s c.args.own in
    let o = attribute_at s c.args.attribute in
    let text = c.args.text.now in
    let ds = c.declarations-declarations.ensures in
    let d = c.in-By.ensures ds.0 ds.1.1 in
    let f = explicit_form s c.in-Explicit.optional c.in-Explicit.texpr d.0.form (subst (λ (g : Coded). IsResolvedForm s g d.0.form) c.in-Explicit.is d.1.0.form) in
    let w = c.wanted_by-wanted.result in
    ok_some _ (WalksSlot s S o text c.args.at c.args.into.now.items c.walk_value.new.into.items) c.walk_value.result c.walk_value.ensures.walked
    (λ p h. slot_of_value s c.fits.ensures S o ds.0 ds.1.0 d.0 d.1.1 c.in-Explicit.optional f.0 w f.1 (c.wanted_by-wanted.ensures f.0 f.2) text c.args.at c.args.into.now.items c.walk_value.new.into.items p (h g f.0 f.2))

pub returns-in-Derived-clause-walked : goal.returns-in-Derived-clause-walked
returns-in-Derived-clause-walked c g =
    let s = c.args.schema.now in
    let S = SetOf s c.args.own in
    let o = attribute_at s c.args.attribute in
    let text = c.args.text.now in
    let ds = c.declarations-declarations.ensures in
    let old = c.args.into.now.items in
    some_then _ (WalksSlot s S o text c.args.at old old) c.walk_star.result c.walk_star.ensures.walked (λ p h. slot_of_star s S o ds.0 ds.1.0 (c.in-Derived.ensures ds.0 ds.1.1) text c.args.at old p h)
