use Rattle.std.proofs.Common.{◌≡◌, length, sym, ap, ◌∙◌, ⊎_elim, subst, arith}
use Rattle.std.proofs.lemmas.Bool.{cases_eq}
use Rattle.std.proofs.lemmas.List.{with_items_is}
use Rattle.p21_graph.specs.Graph.{IsMarked}
use Rattle.p21_graph.proofs.graph.order.Goals as goal

pub loop-vertex-preserved : goal.loop-vertex-preserved
loop-vertex-preserved c =
    let k = c.loop-vertex.vertex in
    let long : length c.place.new.placed ≡ length c.loop-vertex.placed.items = c.place.auto.placed ∙ ap length c.deref_mut.ensures.value in
    let long' : length c.place.new.looked ≡ length c.loop-vertex.looked.items = c.place.auto.looked ∙ ap length c.deref_mut-in-loop-vertex.ensures.value in
    rw (with_items_is c.loop-vertex.placed c.place.new.placed (long ∙ sym c.loop-vertex.placed.ok.0), with_items_is c.loop-vertex.looked c.place.new.looked (long' ∙ sym c.loop-vertex.looked.ok.0)) (record {
      way = c.in_ok-place.ensures.way;
      walk = c.in_ok-place.ensures.walk;
      all = λ v less. ⊎_elim (λ (e : v ≡ k). subst (λ u. IsMarked c.place.new.placed u) (sym e) c.in_ok-place.ensures.placed) (λ (ne : (v ≡ k) → ⊥). c.in_ok-place.ensures.grows v (rw c.deref_mut.ensures.value (c.loop-vertex.invariant.all v (omega arith)))) (cases_eq v k);
    })
