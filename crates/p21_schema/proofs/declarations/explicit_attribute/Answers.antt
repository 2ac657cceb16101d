use Rattle.std.proofs.Common.{◌≡◌, Some, None, option_map, get_or, ap, subst, ℕ, List, MatchOption}
use Rattle.std.specs.Prelude.{Vec}
use Rattle.p21_express.specs.Plain.{plain_attribute}
use Rattle.p21_schema.specs.DeclarationTable.{known_schema, IsNotOwn, IsOwnAt}
use Rattle.p21_schema.specs.Declaration.{written_explicit}
use Rattle.p21_schema.specs.Place.{no_entity}
use Rattle.p21_schema.proofs.DeclarationLemmas.{explicit_redeclares, ancestor_known, declared_newly, declared_again}
use Rattle.p21_schema.proofs.declarations.explicit_attribute.Goals as goal

pub again-requires-clause-of : goal.again-requires-clause-of
again-requires-clause-of c =
    let s = known_schema c.args.known.now in
    let of : (plain_attribute c.args.attribute.now).of ≡ Some c.in-Some.of.items = ap (option_map (λ (n : Vec ℕ _). n.items)) c.in-Some.is in
    let r = explicit_redeclares s c.requires.known.well_formed c.args.entity c.requires.entity (plain_attribute c.args.attribute.now) c.in-Some.of.items c.requires.attribute of in
    rw c.deref.ensures.value (ancestor_known s c.requires.known.well_formed r.1.ancestor)

pub returns-in-None : goal.returns-in-None
returns-in-None c =
    let s = known_schema c.args.known.now in
    let of : (plain_attribute c.args.attribute.now).of ≡ None = ap (option_map (λ (n : Vec ℕ _). n.items)) c.in-None.is in
    declared_newly s c.requires.known.well_formed c.args.entity (plain_attribute c.args.attribute.now) (Some c.args.new) c.requires.attribute of (c.requires.new of)

pub returns-in-Some : goal.returns-in-Some
returns-in-Some c =
    let s = known_schema c.args.known.now in
    let a = plain_attribute c.args.attribute.now in
    let of : a.of ≡ Some c.in-Some.of.items = ap (option_map (λ (n : Vec ℕ _). n.items)) c.in-Some.is in
    let r = explicit_redeclares s c.requires.known.well_formed c.args.entity c.requires.entity a c.in-Some.of.items c.requires.attribute of in
    declared_again s c.requires.known.well_formed (written_explicit (get_or s.entities c.args.entity no_entity).name a) c.in-Some.of.items r.0 c.again.result of r.1
    (rw (c.deref.ensures.value, c.deref-in-Some.ensures.value) at c.again.ensures)
