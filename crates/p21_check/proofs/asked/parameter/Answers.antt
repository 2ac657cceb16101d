use Rattle.p21_tree.specs.Plain.{plain}
use Rattle.p21_schema.specs.Row.{attribute_at}
use Rattle.p21_check.specs.Asked.{AskedBy}
use Rattle.p21_check.specs.Sets.{HasEntity}
use Rattle.p21_check.specs.Wanted.{Asks}
use Rattle.p21_check.proofs.AskedLemmas.{found_alike, no_names_asked}
use Rattle.p21_check.proofs.SlotLemmas.{counts_among, derived_there}
use Rattle.p21_check.proofs.BoundLemmas.{lowest_asks}
use Rattle.p21_check.proofs.Tests.{both}
use Rattle.p21_check.proofs.asked.parameter.Goals as goal

pub returns-then-not-may_refer : goal.returns-then-not-may_refer
returns-then-not-may_refer g c = no_names_asked c.args.schema.now (g.J.NameJudge.named c.args.judge.now) (HasEntity c.args.schema.now c.args.set.now) (attribute_at c.args.schema.now c.args.attribute) (plain c.args.param.now) (c.may_refer.ensures c.if-not-may_refer.true)

pub returns-in-By : goal.returns-in-By
returns-in-By g c =
    let s = c.args.schema.now in
    let set = HasEntity s c.args.set.now in
    let o = attribute_at s c.args.attribute in
    let p = plain c.args.param.now in
    let w = c.asked_by_form-wanted.result in
    let ds = c.declarations-declarations.ensures in
    let d = c.in-By.ensures ds.0 ds.1.1 in
    let asks = c.asked_by_form-wanted.ensures d.0.form d.1.0.form in
    found_alike s (g.J.NameJudge.named c.args.judge.now) (AskedBy s set o p) (Asks s w p) c.against.result
    (λ place r. both (lowest_asks s c.fits.ensures set o ds.0 ds.1.0 d.0 d.1.1 p place r) (asks.same p place r)) c.against.ensures

pub returns-in-Derived : goal.returns-in-Derived
returns-in-Derived g c place r a =
    let s = c.args.schema.now in
    let ds = c.declarations-declarations.ensures in
    absurd (a.counts.not_derived (derived_there s (HasEntity s c.args.set.now) (attribute_at s c.args.attribute) ds.0 ds.1.0 (c.in-Derived.ensures ds.0 ds.1.1)))

pub returns-in-Free : goal.returns-in-Free
returns-in-Free g c place r a =
    let s = c.args.schema.now in
    let ds = c.declarations-declarations.ensures in
    absurd (let k = counts_among s (HasEntity s c.args.set.now) (attribute_at s c.args.attribute) ds.0 ds.1.0 a.counts in c.in-Free.ensures ds.0 ds.1.1 a.declaration k.0 k.1.0)
