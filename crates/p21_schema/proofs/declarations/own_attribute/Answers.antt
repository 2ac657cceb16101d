use Rattle.std.proofs.Common.{◌≡◌, ◌<◌, ◌+◌, [], length, get_or, refl, sym, ap, subst, ◌∙◌}
use Rattle.std.proofs.lemmas.List.{length-map, get_or-map}
use Rattle.p21_express.specs.Schema.{Entity}
use Rattle.p21_express.specs.Plain.{plain_entity}
use Rattle.p21_schema.specs.DeclarationTable.{known_schema}
use Rattle.p21_express.specs.WellFormed.{new_explicit}
use Rattle.p21_schema.specs.Place.{no_entity}
use Rattle.p21_schema.specs.RowTable.{no_own}
use Rattle.p21_schema.proofs.DeclarationLemmas.{own_is_at}
use Rattle.p21_schema.proofs.declarations.own_attribute.Goals as goal

pub returns : goal.returns
returns c =
    let s = known_schema c.args.known.now in
    let items = c.args.known.now.declarations.now.entities.items in
    let e = c.args.entity in
    let table = c.args.known.now.own.now in
    let less : e < length items = rw (← (length-map items plain_entity)) c.requires.entity in
    let at : get_or s.entities e no_entity ≡ plain_entity c.index.result.now = get_or-map plain_entity items e c.index.result.now no_entity less ∙ ap plain_entity (sym c.index.ensures) in
    let found = subst (λ (u : Entity). (c.in_ok-position.position < length (new_explicit u.attributes)) × (get_or (new_explicit u.attributes) c.in_ok-position.position [] ≡ c.args.name.now)) (sym at) c.in_ok-position.ensures in
    own_is_at s table e (get_or table e no_own) c.args.name.now c.in_ok-position.position ((get_or table e no_own).from + c.in_ok-position.position) c.requires.known.own c.requires.entity refl found refl
