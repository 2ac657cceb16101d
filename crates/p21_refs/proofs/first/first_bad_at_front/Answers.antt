use Rattle.std.proofs.Common.{◌≡◌, ap, arith, length, refl, ◌∙◌}
use Rattle.std.specs.Prelude.{min}
use Rattle.p21_join.specs.Model.{instances_of}
use Rattle.p21_refs.proofs.PlaceLemmas.{StandsAt, answered_more, first_fault, sound_at}
use Rattle.p21_refs.proofs.first.first_bad_at_front.Goals as goal

pub check_references-requires : goal.check_references-requires
check_references-requires c κs =
    let m = c.args.model.now in
    let i = c.instance-instance.result.now in
    let at : StandsAt m c.loop-place.place i = record { less = omega (arith, c.loop-place-test.true); there = c.instance-instance.ensures } in
    ((refl, (refl, tt)), sound_at c.args.schema.now m c.loop-place.place i c.requires at)

pub returns-in-Err : goal.returns-in-Err
returns-in-Err c =
    let m = c.args.model.now in
    let i = c.instance-instance.result.now in
    let at : StandsAt m c.loop-place.place i = record { less = omega (arith, c.loop-place-test.true); there = c.instance-instance.ensures } in
    first_fault c.args.schema.now m c.loop-place.place i c.in-Err.kind at c.loop-place.invariant c.in-Err.ensures

pub loop-place-preserved : goal.loop-place-preserved
loop-place-preserved c =
    let m = c.args.model.now in
    let i = c.instance-instance.result.now in
    let at : StandsAt m c.loop-place.place i = record { less = omega (arith, c.loop-place-test.true); there = c.instance-instance.ensures } in
    answered_more c.args.schema.now m c.loop-place.place i at c.loop-place.invariant c.in_default.ensures

pub returns : goal.returns
returns c place less =
    let end : c.min-place-end.result ≡ min 2048 (length (instances_of c.args.model.now)) = c.min-place-end.ensures ∙ ap (min 2048) c.len.ensures in
    c.loop-place.invariant place (omega (arith, less, end, c.loop-place-test.false))
