use Rattle.std.proofs.Common.{◌≡◌, Some, sym}
use Rattle.p21_express.specs.Checks.{lone_name}
use Rattle.p21_express.specs.Plain.{plain_expr}
use Rattle.p21_express.specs.SchemaFault.{IsNoEntityAlone}
use Rattle.p21_express.specs.WellFormed.{IsKnown, IsEntity}
use Rattle.p21_express.proofs.ChecksLemmas.{finds_both, finds_same}
use Rattle.p21_express.proofs.UnknownLemmas.{lone_entity, entity_lone}
use Rattle.p21_express.proofs.checks.unknown.plain.Goals as goal

pub returns-in-Some : goal.returns-in-Some
returns-in-Some c = λ s exact.
    let e = plain_expr c.args.texpr.now in
    let n = c.in-Some.name.now.items in
    let is : lone_name e ≡ Some n = sym c.in-Some.ensures in
    finds_both (IsKnown s e) (IsNoEntityAlone s e) c.args.first.now.found c.known_in.new.first.found c.no_entity.new.first.found (c.known_in.ensures s exact)
    (finds_same (¬ (IsEntity s n)) (IsNoEntityAlone s e) c.known_in.new.first.found c.no_entity.new.first.found (lone_entity s e n is) (entity_lone s e n is) (rw c.deref.ensures.value at (c.no_entity.ensures s exact)))
