use Rattle.std.proofs.lemmas.Result.{on_ok_weaker}
use Rattle.p21_tree.specs.Plain.{plain}
use Rattle.p21_schema.specs.Row.{attribute_at}
use Rattle.p21_check.specs.Asked.{AskedBy}
use Rattle.p21_check.specs.Referred.{Somewhere}
use Rattle.p21_check.specs.Sets.{HasEntity}
use Rattle.p21_check.specs.Wanted.{Asks}
use Rattle.p21_check.proofs.BoundLemmas.{lowest_asks}
use Rattle.p21_check.proofs.ReferredLemmas.{adds_none, adds_same, nameless_parameter, somewhere}
use Rattle.p21_check.proofs.SlotLemmas.{counts_among, derived_there}
use Rattle.p21_check.proofs.Tests.{both}
use Rattle.p21_check.proofs.referred.push_of_parameter.Goals as goal

pub returns-then-not-may_refer : goal.returns-then-not-may_refer
returns-then-not-may_refer c =
    let s = c.args.schema.now in
    let S = HasEntity s c.args.set.now in
    let o = attribute_at s c.args.attribute in
    let p = plain c.args.param.now in
    adds_none s (Somewhere (AskedBy s S o p)) c.args.into.now.items (nameless_parameter s S o p (c.may_refer.ensures c.if-not-may_refer.true))

pub returns-in-Derived : goal.returns-in-Derived
returns-in-Derived c =
    let s = c.args.schema.now in
    let S = HasEntity s c.args.set.now in
    let o = attribute_at s c.args.attribute in
    let ds = c.declarations-declarations.ensures in
    adds_none s (Somewhere (AskedBy s S o (plain c.args.param.now))) c.args.into.now.items (λ r a. a.1.counts.not_derived (derived_there s S o ds.0 ds.1.0 (c.in-Derived.ensures ds.0 ds.1.1)))

pub returns-in-Free : goal.returns-in-Free
returns-in-Free c =
    let s = c.args.schema.now in
    let S = HasEntity s c.args.set.now in
    let o = attribute_at s c.args.attribute in
    let ds = c.declarations-declarations.ensures in
    adds_none s (Somewhere (AskedBy s S o (plain c.args.param.now))) c.args.into.now.items (λ r a. let k = counts_among s S o ds.0 ds.1.0 a.1.counts in c.in-Free.ensures ds.0 ds.1.1 a.1.declaration k.0 k.1.0)

pub returns-in-By : goal.returns-in-By
returns-in-By c =
    let s = c.args.schema.now in
    let S = HasEntity s c.args.set.now in
    let o = attribute_at s c.args.attribute in
    let p = plain c.args.param.now in
    let w = c.asked_by_form-wanted.result in
    let ds = c.declarations-declarations.ensures in
    let d = c.in-By.ensures ds.0 ds.1.1 in
    let asks = c.asked_by_form-wanted.ensures d.0.form d.1.0.form in
    on_ok_weaker c.push_asked.result
    (adds_same s (Somewhere (Asks s w p)) (Somewhere (AskedBy s S o p)) c.args.into.now.items c.push_asked.new.into.items
    (somewhere (λ place r. both (lowest_asks s c.fits.ensures S o ds.0 ds.1.0 d.0 d.1.1 p place r) (asks.same p place r))))
    c.push_asked.ensures
