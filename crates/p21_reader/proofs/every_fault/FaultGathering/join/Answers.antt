use Rattle.std.proofs.Common.{◌↔◌, ℕ, [], ◌∷◌, ◌++◌, Ok, map, refl, sym, ap, subst, ◌∙◌}
use Rattle.std.specs.Prelude.{Contains}
use Rattle.std.proofs.lemmas.List.{map-append}
use Rattle.p21_tree.specs.declared.instances.RawInstance.{RawInstance}
use Rattle.p21_tree.specs.Views.{plain_instance}
use Rattle.p21_join.specs.declared.joiner.Joiner.{Joiner}
use Rattle.p21_join.specs.InstanceNames.{IsAmong}
use Rattle.p21_join.specs.Joined.{joined}
use Rattle.p21_join.specs.Model.{plain_instances}
use Rattle.p21_reader.specs.Values.{Whole, IsCarriedFault}
use Rattle.p21_reader.specs.declared.judged.Judged.TheVariants as judged
use Rattle.p21_reader.specs.declared.judged.Judgement.{Judgement}
use Rattle.p21_reader.proofs.EveryFaultLemmas.{sound_more, first_fault}
use Rattle.p21_reader.proofs.NamingLemmas.{names_alike}
use Rattle.p21_reader.proofs.every_fault.FaultGathering.join.Goals as goal

pub returns-in_ok-push-in-None : goal.returns-in_ok-push-in-None
returns-in_ok-push-in-None c = λ js h.
    let g = c.args.self.now in
    let i = c.args.instance in
    let old = plain_instances (joined g.joiner) in
    let w : Whole = record { instance = plain_instance i; own = c.args.own } in
    let j : Judgement = record { judged = judged.Whole i c.args.own; entity = c.args.entity } in
    let own = subst (IsCarriedFault old w) c.in-None.is c.in_ok-join_whole.ensures.fault in
    let more = ap plain_instances (c.in_ok-join_whole.ensures.joined (ap Ok c.in-None.is)) ∙ map-append plain_instance (joined g.joiner) (i ∷ []) in
    sound_more js j w old (plain_instances (joined c.join_whole.new.joiner)) g.entities.items c.push.new.self.items g.names g.faults.items g.ended c.requires.going c.requires.sound h refl own more c.in_ok-push-in-None.ensures.items

pub returns-in_ok-push-in-Some : goal.returns-in_ok-push-in-Some
returns-in_ok-push-in-Some c = λ js h.
    let g = c.args.self.now in
    let i = c.args.instance in
    let old = plain_instances (joined g.joiner) in
    let w : Whole = record { instance = plain_instance i; own = c.args.own } in
    let j : Judgement = record { judged = judged.Whole i c.args.own; entity = c.args.entity } in
    let own = subst (IsCarriedFault old w) c.in-Some.is c.in_ok-join_whole.ensures.fault in
    let names_of = λ (l : Joiner). map (λ (x : RawInstance). x.name) (joined l) in
    let same = subst (λ (l : Joiner). (n : ℕ) → IsAmong c.of.result n ↔ Contains (names_of l) n) c.replace-joiner.ensures.value c.of.ensures in
    let named = names_alike (Contains (names_of c.join_whole.new.joiner)) (IsAmong c.of.result) (old ++ plain_instance i ∷ []) c.in_ok-join_whole.ensures.names same in
    first_fault js j w c.in-Some.kind old (plain_instances (joined c.replace-joiner.new.dest)) g.entities.items c.new-in-Some.result.items g.names c.of.result g.faults.items c.push-in-Some.new.self.items g.ended c.requires.going c.requires.sound h refl own named c.in_ok-push-in-Some.ensures.items
