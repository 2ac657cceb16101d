use denote.Param.Send.{sendable}
use Rattle.std.proofs.Common.{◌≡◌, ◌-◌, ◌<◌, length, sym, ap, subst, ◌∙◌, arith}
use Rattle.std.specs.List.{AllZip, range_with_len}
use Rattle.std.proofs.Crossing.{crosses}
use Rattle.std.proofs.lemmas.List.{length-map}
use Rattle.rayon.proofs.ListFacts.{IfOk-then}
use Rattle.rayon.proofs.ToStd.{nat_range-All}
use Rattle.p21_schema.proofs.Crossing.{Schema-sync}
use Rattle.p21_tree.specs.Views.{plain_instance}
use Rattle.p21_join.specs.Model.{plain_instances}
use Rattle.p21_outline.specs.Columns.{AreColumns}
use Rattle.p21_outline.specs.Faultiness.{AreFaultinesses, IsFaultinessAt}
use Rattle.p21_outline.specs.Outline.{outlined_instances}
use Rattle.p21_outline.proofs.Crossing.{Outline-sync}
use Rattle.p21_outline.proofs.FaultLemmas.{all_places}
use Rattle.p21_outline.proofs.outline.Outline.faultiness.Goals as goal

pub map-requires-send-F : goal.map-requires-send-F
map-requires-send-F g c κs within = search (sendable, crosses, Schema-sync, Outline-sync) depth 40

pub map-requires-sync-F : goal.map-requires-sync-F
map-requires-sync-F g c κs within = search (sendable, crosses, Schema-sync, Outline-sync) depth 40

pub collect-requires-send-Self : goal.collect-requires-send-Self
collect-requires-send-Self g c κs within = search (sendable, crosses, Schema-sync, Outline-sync) depth 40

pub collect-requires-clause-ready : goal.collect-requires-clause-ready
collect-requires-clause-ready g c κs within =
    let view = c.of-view.result in
    let ends = c.into_par_iter.ensures in
    let fits = subst (λ s. AreColumns s view.outline.now.columns) (sym c.of-view.ensures.schema) (subst (λ o. AreColumns c.args.schema.now o.columns) (sym c.of-view.ensures.outline) c.requires) in
    let many = c.len.ensures ∙ ap (λ o. length (outlined_instances o)) (sym c.of-view.ensures.outline) in
    let inside = nat_range-All (λ place. place < length (outlined_instances view.outline.now)) 0 c.len.result (λ place low high. subst (λ n. place < n) many high) in
    rw (c.map.ensures.base, c.map.ensures.f, ends.0, ends.1) (λ k d less. ((fits, inside k d less), λ y p. tt))

pub returns : goal.returns
returns g c =
    let s = c.args.schema.now in
    let is = outlined_instances c.args.self.now in
    let all = plain_instances is in
    let view = c.of-view.result in
    let ends = c.into_par_iter.ensures in
    let whole : c.len.result - 0 ≡ length all = omega (arith, c.len.ensures, length-map is plain_instance) in
    IfOk-then c.collect.result _ _ c.collect.ensures (λ v h.
    let chain = h.1 in
    let places = chain.1 ∙ (ap (λ it. range_with_len it.start (it.end - it.start)) c.map.ensures.base ∙ ((λ i. range_with_len (ends.0 i) (ends.1 i - ends.0 i)) ∙ ap (range_with_len 0) whole)) in
    let of_view = subst (λ w. AllZip (IsFaultinessAt w.schema.now (plain_instances (outlined_instances w.outline.now))) chain.0 h.0) (ap (λ f. f.0) c.map.ensures.f) chain.2 in
    let of_schema = subst (λ t. AllZip (IsFaultinessAt t (plain_instances (outlined_instances view.outline.now))) chain.0 h.0) c.of-view.ensures.schema of_view in
    let of_outline = subst (λ o. AllZip (IsFaultinessAt s (plain_instances (outlined_instances o))) chain.0 h.0) c.of-view.ensures.outline of_schema in
    let answers = subst (λ xs. AllZip (IsFaultinessAt s all) xs h.0) places of_outline in
    subst (AreFaultinesses s all) (sym h.2) (all_places s all h.0 answers))
