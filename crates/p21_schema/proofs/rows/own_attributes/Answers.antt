use Rattle.std.proofs.Common.{◌≡◌, ◌<◌, ◌+◌, ◌++◌, [], ℕ, List, length, get_or, replicate, take, sym, ap, ◌∙◌}
use Rattle.std.proofs.lemmas.List.{length-map, get_or-map, length_push, length-replicate, replicate-append-replicate}
use Rattle.p21_express.specs.Schema.{Entity}
use Rattle.p21_express.specs.Plain.{plain_schema, plain_entity}
use Rattle.p21_express.specs.WellFormed.{new_explicit}
use Rattle.p21_graph.specs.Graph.{rows_of}
use Rattle.p21_graph.specs.GraphLaws.{row_count}
use Rattle.p21_schema.specs.declared.declarations.Declaration.{Declaration}
use Rattle.p21_schema.specs.Place.{no_entity}
use Rattle.p21_schema.specs.Row.{own_attributes, attributes_of}
use Rattle.p21_schema.proofs.RowLemmas.{attributes_more, own_push}
use Rattle.p21_schema.proofs.rows.own_attributes.Goals as goal

pub loop-entity-preserved : goal.loop-entity-preserved
loop-entity-preserved c =
    let s = plain_schema c.args.declarations.now in
    let items = c.args.declarations.now.entities.items in
    let k = c.loop-entity.entity-index in
    let item = c.entity-item.result in
    let less : k < length items = rw (← c.deref-entity-items.ensures.value) c.loop-entity-test.true in
    let less' : k < length s.entities = rw (length-map items plain_entity) less in
    let is : item ≡ get_or items k item = rw (← c.deref-entity-items.ensures.value) c.entity-item.is in
    let at : get_or s.entities k no_entity ≡ plain_entity item = get_or-map plain_entity items k item no_entity less ∙ ap plain_entity (sym is) in
    let own = length (own_attributes (get_or s.entities k no_entity)) in
    let before = length (attributes_of (take k s.entities)) in
    let count : length (new_explicit (plain_entity item).attributes) ≡ own = ap (λ (e : Entity). length (new_explicit e.attributes)) (sym at) ∙ sym (length-map (new_explicit (get_or s.entities k no_entity).attributes) _) in
    let inv = c.loop-entity.invariant in
    let lists : rows_of c.push_lists.new.lists ≡ replicate (before + own) [] =
    c.in_ok-push_lists.ensures ∙ ap (λ (u : List (List Declaration)). u ++ replicate (length (new_explicit (plain_entity item).attributes)) []) inv.lists ∙ ap (λ (n : ℕ). replicate before [] ++ replicate n []) count ∙ replicate-append-replicate before own [] in
    let from : c.len-from.result ≡ before = c.len-from.ensures ∙ sym (row_count c.loop-entity.lists) ∙ ap length inv.lists ∙ length-replicate before [] in
    let to : c.len-to.result ≡ before + own = c.len-to.ensures ∙ sym (row_count c.push_lists.new.lists) ∙ ap length lists ∙ length-replicate (before + own) [] in
    rw c.in_ok-push.ensures.items (record {
      lists = lists ∙ ap (λ (n : ℕ). replicate n []) (sym (attributes_more s.entities k less'));
      count = length_push c.loop-entity.table.items _ ∙ ap (λ (n : ℕ). n + 1) inv.count;
      rows = own_push s c.loop-entity.table.items _ k inv.count inv.rows (record { from = from; count = to ∙ ap (λ (n : ℕ). n + own) (sym from) });
    })
