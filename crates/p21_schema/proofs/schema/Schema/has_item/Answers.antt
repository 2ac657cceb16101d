use Rattle.std.proofs.lemmas.Bool.{false≢true}
use Rattle.p21_schema.specs.Place.{type_name}
use Rattle.p21_schema.proofs.ItemLemmas.{has_items, has_no_items}
use Rattle.p21_schema.proofs.schema.Schema.has_item.Goals as goal

pub returns : goal.returns
returns c =
    let s = c.args.self.now in
    let among = rw c.deref.ensures.value at c.is_among.ensures in
    let item = has_items s c.fits.ensures (type_name s c.args.id) c.args.name.now c.in-Items.items (rw c.in-Items.is at c.under.ensures) in
    (λ r. item.0 (among.0 r), λ m. among.1 (item.1 m))

pub returns-in_default : goal.returns-in_default
returns-in_default c = (λ h. absurd (false≢true h), λ m. absurd (has_no_items c.args.self.now c.fits.ensures (type_name c.args.self.now c.args.id) c.args.name.now c.under.result.now c.in_default.not-Items c.under.ensures m))
