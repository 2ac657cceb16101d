use Rattle.std.proofs.Common.{refl}
use Rattle.p21_join.specs.Entities.{viewed_model, viewed_schema}
use Rattle.p21_refs.proofs.PlaceLemmas.{StandsAt, own_at, sound_at}
use Rattle.p21_refs.proofs.AllLemmas.{none_at, some_at}
use Rattle.p21_refs.proofs.all.fault_at.Goals as goal

pub check_references_among-requires : goal.check_references_among-requires
check_references_among-requires c κs =
    let s = c.args.schema.now in
    let m = c.args.model.now in
    let i = c.instance-instance.result.now in
    let at : StandsAt m c.args.place i = record { less = c.requires.within; there = c.instance-instance.ensures } in
    let view = c.of-view.result in
    let own = own_at s (viewed_schema view) m (viewed_model view) c.args.place i c.entity.result c.of-view.ensures.schema c.of-view.ensures.model at c.entity.ensures in
    ((refl, (refl, tt)), (c.of-view.ensures.schema, (own, sound_at s m c.args.place i c.requires.sound at)))

pub returns-in-Ok : goal.returns-in-Ok
returns-in-Ok c =
    let m = c.args.model.now in
    let i = c.instance-instance.result.now in
    let at : StandsAt m c.args.place i = record { less = c.requires.within; there = c.instance-instance.ensures } in
    none_at c.args.schema.now m (viewed_model c.of-view.result) c.args.place i c.of-view.ensures.model at c.in-Ok.ensures

pub returns-in-Err : goal.returns-in-Err
returns-in-Err c =
    let m = c.args.model.now in
    let i = c.instance-instance.result.now in
    let at : StandsAt m c.args.place i = record { less = c.requires.within; there = c.instance-instance.ensures } in
    some_at c.args.schema.now m (viewed_model c.of-view.result) c.args.place i c.in-Err.kind c.of-view.ensures.model at c.in-Err.ensures
