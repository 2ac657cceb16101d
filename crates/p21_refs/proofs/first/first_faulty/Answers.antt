use denote.Param.Send.{sendable}
use Rattle.std.proofs.Common.{◌-◌, ◌<◌, ◌≤◌, arith, length, sym, subst, ◌∙◌}
use Rattle.std.specs.Prelude.{MatchOption}
use Rattle.std.specs.List.{AllZip, range_with_len}
use Rattle.std.proofs.lemmas.List.{length-map}
use Rattle.rayon.proofs.ToStd.{nat_range-All}
use Rattle.p21_tree.specs.Views.{plain_instance}
use Rattle.p21_join.specs.Model.{instances_of, plain_instances}
use Rattle.p21_refs.specs.Places.{AreAnsweredBefore, IsFaultinessAt, IsFirstFaulty}
use Rattle.p21_refs.proofs.SearchLemmas.{stride_answered, stride_faulty}
use Rattle.std.proofs.Crossing.{crosses}
use Rattle.p21_schema.proofs.Crossing.{Schema-sync}
use Rattle.p21_join.proofs.Crossing.{Model-sync}
use Rattle.p21_refs.proofs.first.first_faulty.Goals as goal

pub position_first-requires-sync-F : goal.position_first-requires-sync-F
position_first-requires-sync-F g c κs within = search (sendable, crosses, Schema-sync, Model-sync) depth 40

pub position_first-requires-clause-items : goal.position_first-requires-clause-items
position_first-requires-clause-items g c κs within =
    let ends = c.into_par_iter.ensures in
    let is = instances_of c.args.model.now in
    let inside = nat_range-All (λ place. place < length is) c.args.from c.args.to (λ place low high. omega (arith, c.requires.within)) in
    rw (ends.0, ends.1) (λ k d less. (c.requires.sound, c.requires.entities, inside k d less))

pub returns-in_err-offset : goal.returns-in_err-offset
returns-in_err-offset g c =
    let s = c.args.schema.now in
    let all = plain_instances (instances_of c.args.model.now) in
    let ends = c.into_par_iter.ensures in
    let asked = c.in_err-offset.ensures in
    let places = asked.2 ∙ (λ i. range_with_len (ends.0 i) (ends.1 i - ends.0 i)) in
    let answers = subst (λ xs. AllZip (IsFaultinessAt s all) xs asked.1) places asked.3 in
    subst (λ r. MatchOption r (AreAnsweredBefore s all c.args.to) (IsFirstFaulty s all)) (sym c.from_residual.ensures)
    (stride_answered s all c.args.from c.args.to asked.1 c.requires.stride c.requires.before answers (sym asked.4))

pub overflow_add-result : goal.overflow_add-result
overflow_add-result g c =
    let s = c.args.schema.now in
    let is = instances_of c.args.model.now in
    let all = plain_instances is in
    let ends = c.into_par_iter.ensures in
    let asked = c.in_ok-offset.ensures in
    let places = asked.2 ∙ (λ i. range_with_len (ends.0 i) (ends.1 i - ends.0 i)) in
    let answers = subst (λ xs. AllZip (IsFaultinessAt s all) xs asked.1) places asked.3 in
    let within : c.args.to ≤ length all = omega (arith, c.requires.within, length-map is plain_instance) in
    let found = stride_faulty s all c.args.from c.args.to asked.1 c.in_ok-offset.offset c.requires.stride within (omega arith) c.requires.before answers (sym asked.4) in
    omega (arith, found.0)

pub returns : goal.returns
returns g c =
    let s = c.args.schema.now in
    let is = instances_of c.args.model.now in
    let all = plain_instances is in
    let ends = c.into_par_iter.ensures in
    let asked = c.in_ok-offset.ensures in
    let places = asked.2 ∙ (λ i. range_with_len (ends.0 i) (ends.1 i - ends.0 i)) in
    let answers = subst (λ xs. AllZip (IsFaultinessAt s all) xs asked.1) places asked.3 in
    let within : c.args.to ≤ length all = omega (arith, c.requires.within, length-map is plain_instance) in
    (stride_faulty s all c.args.from c.args.to asked.1 c.in_ok-offset.offset c.requires.stride within (omega arith) c.requires.before answers (sym asked.4)).1
