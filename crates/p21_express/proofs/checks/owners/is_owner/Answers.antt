use Rattle.std.proofs.Common.{◌<◌, subst}
use Rattle.std.proofs.lemmas.List.{length-map}
use Rattle.p21_express.specs.Again.{IsNewAt}
use Rattle.p21_express.specs.Owners.{IsOwner}
use Rattle.p21_express.specs.Plain.{plain_entity, plain_schema}
use Rattle.p21_express.proofs.AgainLemmas.{new_at, test_same}
use Rattle.p21_express.proofs.RedeclarationLemmas.{entity_there_at}
use Rattle.p21_express.proofs.checks.owners.is_owner.Goals as goal

pub returns-then-has : goal.returns-then-has
returns-then-has c =
    let s = plain_schema c.args.declarations.now in
    let n = c.args.name.now in
    let i = c.args.position in
    let there = entity_there_at c.args.declarations.now.entities.items i c.index.result.now (subst (λ u. i < u) (length-map c.args.declarations.now.entities.items plain_entity) c.requires.position) c.index.ensures in
    test_same c.declares.result (IsNewAt s n i) (IsOwner s c.args.ancestry.now c.args.of n i) (λ h. record { above = c.has.ensures.0 c.if-has.true; newly = h }) (λ h. h.newly) (new_at s n i (plain_entity c.index.result.now) c.declares.result there c.declares.ensures)
