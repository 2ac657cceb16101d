use Rattle.std.proofs.Common.{◌≡◌, ◌≢◌, [], ◌∷◌, ◌++◌, None, Some, inl, inr, sym, ap, subst, ◌∙◌}
use Rattle.std.specs.declared.vec.Vec.{Vec}
use Rattle.p21_tree.specs.declared.faults.Fault.{Fault}
use Rattle.p21_reader.specs.EveryFault.{HaveFaults}
use Rattle.p21_reader.specs.Values.{whole, instances_in, IsCarriedFault}
use Rattle.p21_checker.proofs.GatheringLemmas.{noted_gathered, noted_none, noted_some, some_behind, told_fault}
use Rattle.p21_checker.proofs.gathering.Gathering.note.Goals as goal

pub returns-in-None-clause-noted : goal.returns-in-None-clause-noted
returns-in-None-clause-noted c = λ vs ls w name at own h behind.
    let g = c.args.self.now in
    let b = c.begin_faults.new.self in
    let items : b.faults.items ≡ g.faults.items = ap (λ (v : Vec Fault _). v.items) c.begin_faults.ensures.faults in
    let so_far = c.begin_faults.ensures.gathered vs ls c.requires.going h in
    let earlier = instances_in so_far.wholes in
    let told = subst (IsCarriedFault earlier (record { instance = w.instance; own = c.args.own })) c.in-None.is (c.in_ok-add_name.ensures.fault earlier w.instance name so_far.names_are) in
    let fault = subst (λ o. IsCarriedFault earlier (record { instance = w.instance; own = o }) None) (sym own) told in
    let named = c.in_ok-add_name.ensures.names earlier w.instance name so_far.names_are in
    let some : g.faults.items ≢ [] =
    elim (told_fault g w _ behind (λ s. c.in_ok-add_name.ensures.own (λ e. s (own ∙ e)))) [
      | inl s ↦ s
      | inr s ↦ absurd (s c.in-None.is)
    ] in noted_gathered _ _ ls (c.begin_faults.ensures.ended ∙ c.requires.going) (λ e. some (sym items ∙ e))
    (subst (HaveFaults (vs ++ whole w ∷ []) c.add_name.new.names) (sym items) (noted_none vs w b.names c.add_name.new.names g.faults.items so_far fault named))

pub returns-in_ok-push-in-Some-clause-noted : goal.returns-in_ok-push-in-Some-clause-noted
returns-in_ok-push-in-Some-clause-noted c = λ vs ls w name at own h behind.
    let g = c.args.self.now in
    let b = c.begin_faults.new.self in
    let kind = c.in-Some.kind in
    let items : b.faults.items ≡ g.faults.items = ap (λ (v : Vec Fault _). v.items) c.begin_faults.ensures.faults in
    let so_far = c.begin_faults.ensures.gathered vs ls c.requires.going h in
    let earlier = instances_in so_far.wholes in
    let told = subst (IsCarriedFault earlier (record { instance = w.instance; own = c.args.own })) c.in-Some.is (c.in_ok-add_name.ensures.fault earlier w.instance name so_far.names_are) in
    let fault = subst (λ o. IsCarriedFault earlier (record { instance = w.instance; own = o }) (Some kind)) (sym own) told in
    let named = c.in_ok-add_name.ensures.names earlier w.instance name so_far.names_are in
    let last : Fault = record { kind = kind; at = w.instance.at } in
    let more : c.push.new.self.items ≡ g.faults.items ++ last ∷ [] =
    c.in_ok-push-in-Some.ensures.items ∙ ap (λ l. l ++ record { kind = kind; at = c.args.at } ∷ []) items ∙ ap (λ a. g.faults.items ++ record { kind = kind; at = a } ∷ []) (sym at) in noted_gathered _ _ ls (c.begin_faults.ensures.ended ∙ c.requires.going) (λ e. some_behind g.faults.items last (sym more ∙ e))
    (subst (HaveFaults (vs ++ whole w ∷ []) c.add_name.new.names) (sym more) (noted_some vs w kind b.names c.add_name.new.names g.faults.items so_far fault named))
