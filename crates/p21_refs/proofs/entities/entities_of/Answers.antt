use denote.Param.Send.{sendable}
use Rattle.std.proofs.Common.{ap, subst, ◌∙◌}
use Rattle.std.specs.List.{AllZip}
use Rattle.rayon.proofs.ListFacts.{IfOk-then}
use Rattle.rayon.proofs.ToStd.{slice-AllZip}
use Rattle.p21_tree.specs.Views.{plain_instance}
use Rattle.p21_check.specs.EntityOf.{IsSimpleEntity}
use Rattle.p21_join.specs.Model.{instances_of}
use Rattle.p21_refs.proofs.PlaceLemmas.{plain_entities}
use Rattle.std.proofs.Crossing.{crosses}
use Rattle.p21_schema.proofs.Crossing.{Schema-sync}
use Rattle.p21_tree.proofs.Crossing.{RawInstance-sync}
use Rattle.p21_refs.proofs.entities.entities_of.Goals as goal

pub map-requires-send-F : goal.map-requires-send-F
map-requires-send-F g c κs within = search (sendable, crosses, Schema-sync) depth 40

pub map-requires-sync-F : goal.map-requires-sync-F
map-requires-sync-F g c κs within = search (sendable, crosses, Schema-sync) depth 40

pub collect-requires-send-Self : goal.collect-requires-send-Self
collect-requires-send-Self g c κs within = search (sendable, crosses, Schema-sync, RawInstance-sync) depth 40

pub returns : goal.returns
returns g c =
    let is = instances_of c.args.model.now in
    let slice = ap (λ it. it.slice.now) c.map.ensures.base ∙ c.par_iter.ensures ∙ c.instances.ensures in
    IfOk-then c.collect.result _ _ c.collect.ensures (λ v h.
    let chain = h.1 in
    let asked = slice-AllZip chain.0 is (chain.1 ∙ slice) (λ i e. IsSimpleEntity c.map.result.f.0.now (plain_instance i) e) h.0 chain.2 in
    let known = subst (λ s. AllZip (λ i e. IsSimpleEntity s (plain_instance i) e) is h.0) (ap (λ f. f.0.now) c.map.ensures.f) asked in
    rw h.2 (plain_entities c.args.schema.now is h.0 known))
