use denote.Param.Send.{sendable}
use Rattle.std.proofs.Common.{◌≡◌, ◌-◌, ◌<◌, length, sym, ap, subst, ◌∙◌, arith}
use Rattle.std.specs.List.{AllZip, range_with_len}
use Rattle.std.proofs.lemmas.List.{length-map}
use Rattle.rayon.proofs.ListFacts.{IfOk-then}
use Rattle.rayon.proofs.ToStd.{nat_range-All}
use Rattle.p21_tree.specs.Views.{plain_instance}
use Rattle.p21_join.specs.Model.{instances_of, plain_instances}
use Rattle.p21_refs.specs.AllReferenceFaults.{AreReferenceFaults}
use Rattle.p21_refs.specs.Places.{IsFaultAt}
use Rattle.p21_refs.proofs.AllLemmas.{all_found}
use Rattle.std.proofs.Crossing.{crosses}
use Rattle.p21_schema.proofs.Crossing.{Schema-sync}
use Rattle.p21_join.proofs.Crossing.{Model-sync}
use Rattle.p21_refs.proofs.all.all_by_places.Goals as goal

pub filter_map-requires-send-F : goal.filter_map-requires-send-F
filter_map-requires-send-F g c κs within = search (sendable, crosses, Schema-sync, Model-sync) depth 40

pub filter_map-requires-sync-F : goal.filter_map-requires-sync-F
filter_map-requires-sync-F g c κs within = search (sendable, crosses, Schema-sync, Model-sync) depth 40

pub collect-requires-send-Self : goal.collect-requires-send-Self
collect-requires-send-Self g c κs within = search (sendable, crosses, Schema-sync, Model-sync) depth 40

pub collect-requires-clause-ready : goal.collect-requires-clause-ready
collect-requires-clause-ready g c κs within =
    let ends = c.into_par_iter.ensures in
    let inside = nat_range-All (λ place. place < length (instances_of c.args.model.now)) 0 c.len.result (λ place low high. omega (arith, c.len.ensures)) in
    rw (c.filter_map.ensures.base, c.filter_map.ensures.f, ends.0, ends.1) (λ k d less. ((c.requires.sound, c.requires.entities, inside k d less), λ y p. tt))

pub returns : goal.returns
returns g c =
    let s = c.args.schema.now in
    let is = instances_of c.args.model.now in
    let all = plain_instances is in
    let ends = c.into_par_iter.ensures in
    let whole : c.len.result - 0 ≡ length all = omega (arith, c.len.ensures, length-map is plain_instance) in
    IfOk-then c.collect.result _ _ c.collect.ensures (λ v h.
    let chain = h.1 in
    let made = c.filter_map.result.f in
    let places = chain.2 ∙ ap (λ it. range_with_len it.start (it.end - it.start)) c.filter_map.ensures.base ∙ (λ i. range_with_len (ends.0 i) (ends.1 i - ends.0 i)) ∙ ap (range_with_len 0) whole in
    let of_schema = subst (λ t. AllZip (IsFaultAt t (plain_instances (instances_of made.1.now))) chain.0 chain.1) (ap (λ f. f.0.now) c.filter_map.ensures.f) chain.3 in
    let of_model = subst (λ m. AllZip (IsFaultAt s (plain_instances (instances_of m))) chain.0 chain.1) (ap (λ f. f.1.now) c.filter_map.ensures.f) of_schema in
    let answers = subst (λ xs. AllZip (IsFaultAt s all) xs chain.1) places of_model in
    subst (AreReferenceFaults s all all) (sym (h.2 ∙ chain.4)) (all_found s all chain.1 answers))
