use Rattle.std.proofs.Common.{◌≡◌, ◌<◌, ℕ, List, [], length, get_or, sym, ◌∙◌, subst}
use Rattle.std.proofs.lemmas.List.{length-set, take_all, get_or_default}
use Rattle.p21_express.specs.WellFormed.{IsIn}
use Rattle.p21_graph.specs.Graph.{plain_graph, HasEdge}
use Rattle.p21_graph.specs.MemberLaws.{in_front}
use Rattle.p21_graph.specs.GraphLaws.{row_is, row_count, in_order_below}
use Rattle.p21_schema.proofs.UnderLemmas.{first_in, none_in, end_more_itself, end_more_followed}
use Rattle.p21_schema.proofs.under.ends.Goals as goal
use Rattle.p21_schema.proofs.under.ends.Goals.{in-Some, in-None}

pub index-requires-in-Some : goal.index-requires-in-Some
index-requires-in-Some c =
    let g = plain_graph c.args.graph.now in
    let k = get_or c.args.order.now c.loop-vertex.vertex-index 0 in
    let o = c.requires.order c.loop-vertex.vertex-index c.loop-vertex-test.true in
    let less : k < length c.args.graph.now.items = rw (← c.args.graph.now.ok.0, ← (row_count c.args.graph.now)) o.0 in
    let r : get_or g k [] ≡ c.deref.result.now = row_is c.args.graph.now k c.index.result.now less c.index.ensures ∙ sym c.deref.ensures.value in
    let x = c.in-Some.other.now in
    let i : IsIn c.deref.result.now x = first_in c.deref.result.now x c.in-Some.ensures.value in
    let below : x < length g = in_order_below g c.args.order.now x c.requires.order (in_front c.loop-vertex.vertex-index c.args.order.now x (o.1 x (subst (λ (u : List ℕ). IsIn u x) (sym r) i))) in
    subst (λ u. x < u) (sym c.loop-vertex.invariant.count ∙ sym c.loop-vertex.ends.ok.0) below

pub loop-vertex-preserved : goal.loop-vertex-preserved
loop-vertex-preserved c =
    let g = plain_graph c.args.graph.now in
    let k = get_or c.args.order.now c.loop-vertex.vertex-index 0 in
    let o = c.requires.order c.loop-vertex.vertex-index c.loop-vertex-test.true in
    let less : k < length c.args.graph.now.items = rw (← c.args.graph.now.ok.0, ← (row_count c.args.graph.now)) o.0 in
    let r : get_or g k [] ≡ c.deref.result.now = row_is c.args.graph.now k c.index.result.now less c.index.ensures ∙ sym c.deref.ensures.value in
    let below : k < length c.loop-vertex.ends.items = subst (λ u. k < u) (sym c.loop-vertex.invariant.count) o.0 in
    record {
      count = length-set c.loop-vertex.ends.items k c.match-first.end ∙ c.loop-vertex.invariant.count;
      rows = λ s h.
          let at : k < length s.types = subst (λ u. k < u) h.count o.0 in
          let rows = c.loop-vertex.invariant.rows s h in
          elim c.match-first.branch [
            | in-Some w ↦
                let x = w.in-Some.other.now in
                let i : IsIn c.deref.result.now x = first_in c.deref.result.now x w.in-Some.ensures.value in
                let edge : HasEdge g k x = subst (λ (u : List ℕ). IsIn u x) (sym r) i in
                let within : x < length c.loop-vertex.ends.items = subst (λ u. x < u) (sym c.loop-vertex.invariant.count) (in_order_below g c.args.order.now x c.requires.order (in_front c.loop-vertex.vertex-index c.args.order.now x (o.1 x edge))) in
                let e : c.match-first.end ≡ get_or c.loop-vertex.ends.items x 0 = w.end-is ∙ w.index-in-Some.ensures ∙ get_or_default c.loop-vertex.ends.items x w.index-in-Some.result.now 0 within in
                rw e (end_more_followed s g h c.loop-vertex.ends.items c.args.order.now c.loop-vertex.vertex-index c.loop-vertex-test.true below at rows x edge (o.1 x edge))
            | in-None w ↦
                rw w.end-is (end_more_itself s g h c.loop-vertex.ends.items c.args.order.now c.loop-vertex.vertex-index c.loop-vertex-test.true below at rows (r ∙ none_in c.deref.result.now w.in-None.ensures.value))
          ];
    }

pub returns : goal.returns
returns c = λ s h. record {
  count = c.loop-vertex.invariant.count ∙ h.count;
  rows = λ i less.
      let there : IsIn c.args.order.now i = c.requires.all i (subst (λ u. i < u) (sym h.count) less) in
      c.loop-vertex.invariant.rows s h i (subst (λ (u : List ℕ). IsIn u i) (sym (take_all c.loop-vertex.vertex-index c.args.order.now c.loop-vertex-test.false)) there);
}
