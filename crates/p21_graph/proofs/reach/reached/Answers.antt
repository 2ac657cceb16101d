use Rattle.std.proofs.Common.{◌<◌, ℕ, List, [], get_or, sym, subst, ◌∙◌}
use Rattle.p21_graph.specs.Graph.{plain_graph, Reaches}
use Rattle.p21_graph.specs.Members.{IsIn}
use Rattle.p21_graph.proofs.ReachLemmas.{neighbors_are, neighbors_below, reached_is, written_more}
use Rattle.p21_graph.proofs.reach.reached.Goals as goal

pub insert_all-requires-clause-columns : goal.insert_all-requires-clause-columns
insert_all-requires-clause-columns c = λ k i.
    let v = get_or c.args.order.now c.loop-vertex.vertex-index 0 in
    let below = subst (λ u. v < u) (sym c.requires.vertices) (c.requires.order c.loop-vertex.vertex-index c.loop-vertex-test.true).0 in
    let row = neighbors_are c.args.direct.now v c.index.result.now c.deref.result.now below c.index.ensures c.deref.ensures.value in
    subst (λ u. k < u) (sym c.loop-vertex.invariant.columns) (c.requires.direct v k (subst (λ (u : List ℕ). IsIn u k) (sym row) i))

pub add_rows-requires-clause-from : goal.add_rows-requires-clause-from
add_rows-requires-clause-from c = λ w i.
    let k = c.loop-vertex.vertex-index in
    let row = neighbors_are c.args.graph.now (get_or c.args.order.now k 0) c.index-in-loop-vertex.result.now c.deref-in-loop-vertex.result.now (c.requires.order k c.loop-vertex-test.true).0 c.index-in-loop-vertex.ensures c.deref-in-loop-vertex.ensures.value in
    subst (λ u. w < u) (sym (c.insert_all.ensures.size.rows ∙ c.loop-vertex.invariant.rows)) (neighbors_below (plain_graph c.args.graph.now) c.args.order.now c.deref-in-loop-vertex.result.now k c.requires.order c.loop-vertex-test.true row w i)

pub loop-vertex-preserved : goal.loop-vertex-preserved
loop-vertex-preserved c =
    let l = c.loop-vertex in
    let k = l.vertex-index in
    let v = get_or c.args.order.now k 0 in
    let ordered = c.requires.order k c.loop-vertex-test.true in
    let below = subst (λ u. v < u) (sym c.requires.vertices) ordered.0 in
    let items = neighbors_are c.args.direct.now v c.index.result.now c.deref.result.now below c.index.ensures c.deref.ensures.value in
    let neighbors = neighbors_are c.args.graph.now v c.index-in-loop-vertex.result.now c.deref-in-loop-vertex.result.now ordered.0 c.index-in-loop-vertex.ensures c.deref-in-loop-vertex.ensures.value in
    let direct = plain_graph c.args.direct.now in
    let graph = plain_graph c.args.graph.now in
    record {
      rows = c.add_rows.ensures.size.rows ∙ c.insert_all.ensures.size.rows ∙ l.invariant.rows;
      columns = c.add_rows.ensures.size.columns ∙ c.insert_all.ensures.size.columns ∙ l.invariant.columns;
      written = written_more (λ a x. IsIn (get_or direct a []) x) graph (Reaches direct graph) (reached_is direct graph) c.args.order.now k l.table c.insert_all.new.table c.add_rows.new.table c.loop-vertex-test.true ordered.1 l.invariant.written
          (rw items c.insert_all.ensures.holds) (rw neighbors c.add_rows.ensures.holds);
    }
