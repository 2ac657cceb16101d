use Rattle.std.proofs.Common.{◌≡◌, true, sym, ◌∙◌}
use Rattle.p21_check.specs.Wanted.{is_name}
use Rattle.p21_check.proofs.AdmitsLemmas.{known_admits}
use Rattle.p21_check.proofs.wanted.Wanted.admits.Goals as goal

pub returns-in-Simple : goal.returns-in-Simple
returns-in-Simple c i known =
    let s = c.args.schema.now in
    let name : is_name c.args.self ≡ true = sym c.is_name.ensures ∙ c.if-not-is_name.false in
    known_admits s c.fits.ensures i c.args.self c.in-Simple.own c.is_met_from.result c.args.named c.in-Simple.is known name c.requires.asked c.is_met_from.ensures
