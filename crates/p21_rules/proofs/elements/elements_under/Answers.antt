use Rattle.p21_schema.specs.Place.{type_name}
use Rattle.p21_rules.proofs.ElementsLemmas.{items_under, select_under, plain_under}
use Rattle.p21_rules.proofs.elements.elements_under.Goals as goal

pub returns-in-Items : goal.returns-in-Items
returns-in-Items c =
    let s = c.args.schema.now in
    let u = c.under.ensures in
    items_under s c.fits.ensures (type_name s c.args.defined) c.under.result.now c.in-Items.field-0 c.in-Items.is u.0 u.1.0 u.1.1

pub returns-in-Select : goal.returns-in-Select
returns-in-Select c =
    let s = c.args.schema.now in
    let u = c.under.ensures in
    select_under s c.fits.ensures (type_name s c.args.defined) c.under.result.now c.in-Select.field-0 c.in-Select.is u.0 u.1.0 u.1.1

pub returns-in-Plain : goal.returns-in-Plain
returns-in-Plain c =
    let s = c.args.schema.now in
    let u = c.under.ensures in
    plain_under s c.fits.ensures (type_name s c.args.defined) c.under.result.now c.in-Plain.texpr c.plain_elements.result c.in-Plain.is (c.plain_elements.ensures s) u.0 u.1.0 u.1.1
