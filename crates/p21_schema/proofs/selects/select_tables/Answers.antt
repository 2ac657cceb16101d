use Rattle.std.proofs.Common.{ℕ, length, sym, subst}
use Rattle.p21_express.specs.WellFormed.{IsEntity, IsSelect}
use Rattle.p21_graph.specs.Graph.{plain_graph, AreEdgesBelow}
use Rattle.p21_graph.specs.Reach.{IsReachTable}
use Rattle.p21_schema.specs.declared.selects.Item.TheVariants as item_kind
use Rattle.p21_schema.specs.SelectTable.{entity_named, type_named}
use Rattle.p21_schema.proofs.SelectLemmas.{inner_below, no_inner_cycle, items_below, stands_entity, stands_other, select_table}
use Rattle.p21_schema.proofs.selects.select_tables.Goals as goal

pub order-requires-clause-edges : goal.order-requires-clause-edges
order-requires-clause-edges c =
    let q = c.requires in
    inner_below q.0 q.1.0 c.args.unders.now q.1.1.0 (plain_graph c.in_ok-inner.inner) c.in_ok-inner.ensures

pub order-requires-clause-cycles : goal.order-requires-clause-cycles
order-requires-clause-cycles c =
    let q = c.requires in
    no_inner_cycle q.0 q.1.0 c.args.unders.now q.1.1.0 (plain_graph c.in_ok-inner.inner) c.in_ok-inner.ensures

pub reached-requires-clause-direct : goal.reached-requires-clause-direct
reached-requires-clause-direct c =
    let q = c.requires in
    let s = q.0 in
    rw q.1.1.1 (items_below s q.1.0 c.args.unders.now q.1.1.0 item_kind.Entity (IsEntity s) (length s.entities) (entity_named s) (stands_entity s q.1.0 c.args.unders.now q.1.1.0) (plain_graph c.in_ok-direct.direct) c.in_ok-direct.ensures)

pub reached-requires-2-clause-direct : goal.reached-requires-2-clause-direct
reached-requires-2-clause-direct c =
    let q = c.requires in
    let s = q.0 in
    subst (λ (n : ℕ). AreEdgesBelow (plain_graph c.in_ok-direct-2.direct) n) (sym q.1.1.0.count)
    (items_below s q.1.0 c.args.unders.now q.1.1.0 item_kind.Other (λ n. ¬ (IsSelect s n)) (length s.types) (type_named s) (stands_other s q.1.0 c.args.unders.now q.1.1.0) (plain_graph c.in_ok-direct-2.direct) c.in_ok-direct-2.ensures)

pub returns : goal.returns
returns c = λ s formed r count.
    let unders = c.args.unders.now in
    let inner = plain_graph c.in_ok-inner.inner in
    let reach : IsReachTable (plain_graph c.in_ok-direct.direct) (length s.entities) inner c.in_ok-entities.entities = subst (λ (n : ℕ). IsReachTable (plain_graph c.in_ok-direct.direct) n inner c.in_ok-entities.entities) count c.in_ok-entities.ensures in
    let others : IsReachTable (plain_graph c.in_ok-direct-2.direct) (length s.types) inner c.in_ok-types.types = subst (λ (n : ℕ). IsReachTable (plain_graph c.in_ok-direct-2.direct) n inner c.in_ok-types.types) r.count c.in_ok-types.ensures in
    record {
      entities = select_table s formed unders r inner c.in_ok-inner.ensures item_kind.Entity (IsEntity s) (length s.entities) (entity_named s) (stands_entity s formed unders r) (plain_graph c.in_ok-direct.direct) c.in_ok-direct.ensures c.in_ok-entities.entities reach;
      types = select_table s formed unders r inner c.in_ok-inner.ensures item_kind.Other (λ n. ¬ (IsSelect s n)) (length s.types) (type_named s) (stands_other s formed unders r) (plain_graph c.in_ok-direct-2.direct) c.in_ok-direct-2.ensures c.in_ok-types.types others;
    }
