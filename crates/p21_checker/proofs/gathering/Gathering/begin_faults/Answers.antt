use Rattle.std.proofs.Common.{◌≡◌, ◌↔◌, ℕ, length, map, rules, sym, subst}
use Rattle.std.specs.Prelude.{Contains}
use Rattle.std.proofs.lemmas.List.{nil_from_length}
use Rattle.p21_tree.specs.declared.instances.RawInstance.{RawInstance}
use Rattle.p21_join.specs.InstanceNames.{IsAmong}
use Rattle.p21_join.specs.Model.{plain_instances}
use Rattle.p21_outline.specs.Outline.{outlined_instances}
use Rattle.p21_outline.specs.declared.outline.Outline.{Outline}
use Rattle.p21_reader.specs.EveryFault.{HaveFaults}
use Rattle.p21_checker.proofs.GatheringLemmas.{faults_from, sound_gathered}
use Rattle.p21_checker.proofs.NameLemmas.{names_are}
use Rattle.p21_checker.proofs.gathering.Gathering.begin_faults.Goals as goal

pub returns-clause-gathered : goal.returns-clause-gathered
returns-clause-gathered c = λ vs ls going h.
    let g = c.args.self.now in
    let zero : length g.faults.items ≡ 0 = search rules in
    let none = nil_from_length g.faults.items zero in
    let old = outlined_instances g.outline in
    let have = sound_gathered vs (plain_instances old) g.names g.faults.items g.ended going none h.faults in
    let same = subst (λ (o : Outline). (n : ℕ) → IsAmong c.into_names.result n ↔ Contains (map (λ (x : RawInstance). x.name) (outlined_instances o)) n) c.replace-outline.ensures.value c.into_names.ensures in
    subst (HaveFaults vs c.into_names.result) (sym none) (faults_from vs (plain_instances old) c.into_names.result have (names_are c.into_names.result old same))
