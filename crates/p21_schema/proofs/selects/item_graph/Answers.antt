use Rattle.std.proofs.Common.{◌≡◌, ◌<◌, ◌+◌, length, sym, ap, subst, arith, ◌∙◌}
use Rattle.std.proofs.lemmas.List.{length_push}
use Rattle.p21_graph.specs.Graph.{plain_graph}
use Rattle.p21_graph.specs.GraphLaws.{rows_push}
use Rattle.p21_schema.proofs.SelectLemmas.{graph_more}
use Rattle.p21_schema.proofs.selects.item_graph.Goals as goal

pub loop-under-preserved : goal.loop-under-preserved
loop-under-preserved c =
    let inv = c.loop-under.invariant in
    let row = c.in_ok-items_under.field-0 in
    rw (rows_push c.loop-under.graph c.push.new.self row c.in_ok-push.ensures.items) (record {
      count = length_push (plain_graph c.loop-under.graph) row.items ∙ ap (λ (n : _). n + 1) inv.count;
      rows = graph_more c.args.unders.now c.args.wanted (plain_graph c.loop-under.graph) row.items c.loop-under.under-index c.under-item.result c.loop-under-test.true c.under-item.is inv.count inv.rows c.in_ok-items_under.ensures;
    })

pub returns : goal.returns
returns c =
    let inv = c.loop-under.invariant in
    let all : c.loop-under.under-index ≡ length c.args.unders.now = omega arith in
    record { count = inv.count ∙ all; rows = λ i d less. inv.rows i d (subst (λ u. i < u) (sym all) less) }
