use Rattle.std.proofs.Common.{◌<◌, length, ◌≡◌, get_or, map, sym, ap, subst, ◌∙◌}
use Rattle.std.proofs.lemmas.List.{length-map, get_or-map}
use Rattle.p21_express.specs.Schema.{Entity}
use Rattle.p21_express.specs.Plain.{plain_entity}
use Rattle.p21_express.specs.WellFormed.{IsIn}
use Rattle.p21_graph.specs.Graph.{plain_graph}
use Rattle.p21_graph.specs.MemberLaws.{at_place}
use Rattle.p21_graph.specs.GraphLaws.{rows_push}
use Rattle.p21_schema.specs.Place.{no_entity}
use Rattle.p21_schema.specs.Ancestry.{AreNamed}
use Rattle.p21_schema.proofs.AncestryLemmas.{supertypes_push}
use Rattle.p21_schema.proofs.ancestry.supertypes.Goals as goal

pub supertypes_of-requires : goal.supertypes_of-requires
supertypes_of-requires c =
    let es = map plain_entity c.args.entities.now in
    let k = c.loop-entity.entity-index in
    let less : k < length es = rw (length-map c.args.entities.now plain_entity) c.loop-entity-test.true in
    let e : get_or es k no_entity ≡ plain_entity c.entity-item.result = get_or-map plain_entity c.args.entities.now k c.entity-item.result no_entity c.loop-entity-test.true ∙ ap plain_entity (sym c.entity-item.is) in
    λ n i. c.requires (plain_entity c.entity-item.result) n (subst (λ (u : Entity). IsIn es u) e (at_place es k no_entity less)) i

pub loop-entity-preserved : goal.loop-entity-preserved
loop-entity-preserved c =
    let es = map plain_entity c.args.entities.now in
    let k = c.loop-entity.entity-index in
    let row = c.in_ok-supertypes_of.field-0 in
    let less : k < length es = rw (length-map c.args.entities.now plain_entity) c.loop-entity-test.true in
    let e : get_or es k no_entity ≡ plain_entity c.entity-item.result = get_or-map plain_entity c.args.entities.now k c.entity-item.result no_entity c.loop-entity-test.true ∙ ap plain_entity (sym c.entity-item.is) in
    let this : AreNamed c.args.names.now row.items (get_or es k no_entity).supertypes = subst (λ (u : Entity). AreNamed c.args.names.now row.items u.supertypes) (sym e) c.in_ok-supertypes_of.ensures in
    rw (rows_push c.loop-entity.graph c.push.new.self row c.in_ok-push.ensures.items) (supertypes_push c.args.names.now (plain_graph c.loop-entity.graph) es row.items k less c.loop-entity.invariant this)
