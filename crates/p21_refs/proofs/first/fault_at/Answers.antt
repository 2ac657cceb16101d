use Rattle.std.proofs.Common.{arith, refl}
use Rattle.std.proofs.lemmas.List.{length-map}
use Rattle.p21_tree.specs.Views.{plain_instance}
use Rattle.p21_check.specs.References.{named_in}
use Rattle.p21_join.specs.Model.{instances_of, plain_instances}
use Rattle.p21_refs.proofs.PlaceLemmas.{StandsAt, first_fault, not_both, sound_at}
use Rattle.p21_refs.proofs.first.fault_at.Goals as goal

pub check_references-requires : goal.check_references-requires
check_references-requires c κs =
    let m = c.args.model.now in
    let i = c.instance-instance.result.now in
    let at : StandsAt m c.args.place i = record { less = omega (arith, c.requires.first.within, length-map (instances_of m) plain_instance); there = c.instance-instance.ensures } in
    ((refl, (refl, tt)), sound_at c.args.schema.now m c.args.place i c.requires.sound at)

pub unreachable-requires : goal.unreachable-requires
unreachable-requires c =
    let m = c.args.model.now in
    let i = c.instance-instance.result.now in
    let at : StandsAt m c.args.place i = record { less = omega (arith, c.requires.first.within, length-map (instances_of m) plain_instance); there = c.instance-instance.ensures } in
    let one = c.one_reference_fault.ensures c.args.schema.now (named_in (plain_instances (instances_of m))) (plain_instance i) in
    not_both c.args.schema.now m c.args.place i one at c.requires.first c.in-Ok.ensures

pub returns : goal.returns
returns c =
    let m = c.args.model.now in
    let i = c.instance-instance.result.now in
    let at : StandsAt m c.args.place i = record { less = omega (arith, c.requires.first.within, length-map (instances_of m) plain_instance); there = c.instance-instance.ensures } in
    first_fault c.args.schema.now m c.args.place i c.in-Err.kind at c.requires.first.before c.in-Err.ensures
