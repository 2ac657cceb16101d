use Rattle.std.proofs.Common.{refl, subst, sym}
use Rattle.p21_tree.specs.Views.{plain_instance}
use Rattle.p21_join.specs.Joined.{joined}
use Rattle.p21_join.specs.Model.{plain_instances}
use Rattle.p21_reader.specs.EveryFault.{GathersFaults}
use Rattle.p21_reader.specs.Values.{Whole, IsCarriedFault, instances_in}
use Rattle.p21_reader.specs.declared.judged.Judged.TheVariants as judged
use Rattle.p21_reader.specs.declared.judged.Judgement.{Judgement}
use Rattle.p21_reader.proofs.EveryFaultLemmas.{faulty_gathered, noted_none, noted_some}
use Rattle.p21_reader.proofs.every_fault.FaultGathering.note.Goals as goal

pub returns-in-None : goal.returns-in-None
returns-in-None c = λ js entity h.
    let g = c.args.self.now in
    let i = c.args.instance.now in
    let old = plain_instances (joined g.joiner) in
    let w : Whole = record { instance = plain_instance i; own = c.args.own } in
    let j : Judgement = record { judged = judged.Whole i c.args.own; entity = entity } in
    let so_far = faulty_gathered js old g.entities.items g.names g.faults.items g.ended c.requires.going c.requires.faulty h in
    let earlier = instances_in so_far.wholes in
    let own = subst (IsCarriedFault earlier w) c.in-None.is (c.in_ok-add_name.ensures.fault earlier (plain_instance i) refl so_far.names_are) in
    let named = c.in_ok-add_name.ensures.names earlier (plain_instance i) refl so_far.names_are in
    subst (GathersFaults _ old g.entities.items c.add_name.new.names g.faults.items) (sym c.requires.going)
    (noted_none js j w old old g.entities.items g.entities.items c.add_name.new.names g.names g.faults.items so_far c.requires.faulty refl own named)

pub returns-in_ok-push-in-Some : goal.returns-in_ok-push-in-Some
returns-in_ok-push-in-Some c = λ js entity h.
    let g = c.args.self.now in
    let i = c.args.instance.now in
    let old = plain_instances (joined g.joiner) in
    let w : Whole = record { instance = plain_instance i; own = c.args.own } in
    let j : Judgement = record { judged = judged.Whole i c.args.own; entity = entity } in
    let so_far = faulty_gathered js old g.entities.items g.names g.faults.items g.ended c.requires.going c.requires.faulty h in
    let earlier = instances_in so_far.wholes in
    let own = subst (IsCarriedFault earlier w) c.in-Some.is (c.in_ok-add_name.ensures.fault earlier (plain_instance i) refl so_far.names_are) in
    let named = c.in_ok-add_name.ensures.names earlier (plain_instance i) refl so_far.names_are in
    subst (GathersFaults _ old g.entities.items c.add_name.new.names c.push.new.self.items) (sym c.requires.going)
    (noted_some js j w c.in-Some.kind old g.entities.items c.add_name.new.names g.names g.faults.items c.push.new.self.items so_far refl own named c.in_ok-push-in-Some.ensures.items)
