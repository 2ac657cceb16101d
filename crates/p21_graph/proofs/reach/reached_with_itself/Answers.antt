use Rattle.std.proofs.Common.{◌≡◌, ◌<◌, get_or, sym, subst, ◌∙◌}
use Rattle.p21_graph.specs.Graph.{plain_graph}
use Rattle.p21_graph.specs.Reach.{IsWithin}
use Rattle.p21_graph.proofs.ReachLemmas.{neighbors_are, neighbors_below, within_is, written_more}
use Rattle.p21_graph.proofs.reach.reached_with_itself.Goals as goal

pub add_rows-requires-clause-from : goal.add_rows-requires-clause-from
add_rows-requires-clause-from c = λ w i.
    let k = c.loop-vertex.vertex-index in
    let row = neighbors_are c.args.graph.now (get_or c.args.order.now k 0) c.index.result.now c.deref.result.now (c.requires.order k c.loop-vertex-test.true).0 c.index.ensures c.deref.ensures.value in
    subst (λ u. w < u) (sym (c.insert.ensures.size.rows ∙ c.loop-vertex.invariant.rows)) (neighbors_below (plain_graph c.args.graph.now) c.args.order.now c.deref.result.now k c.requires.order c.loop-vertex-test.true row w i)

pub loop-vertex-preserved : goal.loop-vertex-preserved
loop-vertex-preserved c =
    let l = c.loop-vertex in
    let k = l.vertex-index in
    let ordered = c.requires.order k c.loop-vertex-test.true in
    let neighbors = neighbors_are c.args.graph.now (get_or c.args.order.now k 0) c.index.result.now c.deref.result.now ordered.0 c.index.ensures c.deref.ensures.value in
    let graph = plain_graph c.args.graph.now in
    record {
      rows = c.add_rows.ensures.size.rows ∙ c.insert.ensures.size.rows ∙ l.invariant.rows;
      columns = c.add_rows.ensures.size.columns ∙ c.insert.ensures.size.columns ∙ l.invariant.columns;
      written = written_more (λ a x. x ≡ a) graph (IsWithin graph) (within_is graph) c.args.order.now k l.table c.insert.new.self c.add_rows.new.table c.loop-vertex-test.true ordered.1 l.invariant.written c.insert.ensures.holds (rw neighbors c.add_rows.ensures.holds);
    }
