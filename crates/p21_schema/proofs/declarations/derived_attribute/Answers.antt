use Rattle.std.proofs.Common.{◌≡◌, Some, option_map, get_or, ap, ℕ}
use Rattle.std.specs.Prelude.{Vec}
use Rattle.p21_express.specs.Plain.{plain_derived}
use Rattle.p21_schema.specs.DeclarationTable.{known_schema}
use Rattle.p21_schema.specs.Declaration.{written_derived}
use Rattle.p21_schema.specs.Place.{no_entity}
use Rattle.p21_schema.proofs.DeclarationLemmas.{derived_redeclares, ancestor_known, declared_again}
use Rattle.p21_schema.proofs.declarations.derived_attribute.Goals as goal

pub again-requires-clause-of : goal.again-requires-clause-of
again-requires-clause-of c =
    let s = known_schema c.args.known.now in
    let of : (plain_derived c.args.derived.now).of ≡ Some c.in-Some.of.items = ap (option_map (λ (n : Vec ℕ _). n.items)) c.in-Some.is in
    let r = derived_redeclares s c.requires.known.well_formed c.args.entity c.requires.entity (plain_derived c.args.derived.now) c.in-Some.of.items c.requires.derived of in
    rw c.deref.ensures.value (ancestor_known s c.requires.known.well_formed r.1.ancestor)

pub returns-in-Some : goal.returns-in-Some
returns-in-Some c =
    let s = known_schema c.args.known.now in
    let a = plain_derived c.args.derived.now in
    let of : a.of ≡ Some c.in-Some.of.items = ap (option_map (λ (n : Vec ℕ _). n.items)) c.in-Some.is in
    let r = derived_redeclares s c.requires.known.well_formed c.args.entity c.requires.entity a c.in-Some.of.items c.requires.derived of in
    declared_again s c.requires.known.well_formed (written_derived (get_or s.entities c.args.entity no_entity).name a) c.in-Some.of.items r.0 c.again.result of r.1
    (rw (c.deref.ensures.value, c.deref-in-Some.ensures.value) at c.again.ensures)
