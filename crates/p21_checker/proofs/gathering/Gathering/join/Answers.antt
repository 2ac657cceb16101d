use Rattle.std.proofs.Common.{◌<◌, ◌∷◌, ◌++◌, [], get_or, length, map, refl, sym, subst, take, ap, ◌∙◌}
use Rattle.std.proofs.lemmas.List.{length-map}
use Rattle.p21_outline.specs.Outline.{Extends, outlined_instances}
use Rattle.p21_outline.specs.OutlineList.{listed_instances}
use Rattle.p21_outline.specs.PlacedName.{placed_name}
use Rattle.p21_outline.specs.declared.outline.Extended.TheVariants as extended
use Rattle.p21_outline.specs.declared.outline.Outline.{Outline}
use Rattle.p21_outline.specs.declared.outline_list.OutlineList.{OutlineList}
use Rattle.p21_checker.proofs.GatheringLemmas.{faults_before, gathered_joined, on_ok}
use Rattle.p21_checker.proofs.NameLemmas.{is_among}
use Rattle.p21_checker.proofs.gathering.Gathering.join.Goals as goal

pub note_repeated-requires-clause-within : goal.note_repeated-requires-clause-within
note_repeated-requires-clause-within c =
    let repeated = subst (Extends c.replace-outline.result c.args.list) c.in-Repeated.is c.in_ok-outline.ensures in
    let names = c.names.ensures ∙ ap (λ (l : OutlineList). map placed_name (listed_instances l)) repeated.0 in
    subst (λ n. c.in-Repeated.place < n) (sym (ap length names ∙ length-map (listed_instances c.args.list) placed_name)) repeated.1.within

pub returns-in-Whole : goal.returns-in-Whole
returns-in-Whole c = λ vs ls h.
    let g = c.args.self.now in
    let list = c.args.list in
    let new = c.in-Whole.outline in
    let joined = subst (λ (o : Outline). Extends o list (extended.Whole new)) c.replace-outline.ensures.value (subst (Extends c.replace-outline.result list) c.in-Whole.is c.in_ok-outline.ensures) in
    gathered_joined g (record g { outline = new }) vs ls list c.requires.going c.requires.sound refl refl h new.own_names joined

pub returns-in-Repeated : goal.returns-in-Repeated
returns-in-Repeated c =
    on_ok c.note_repeated.result _ _
    (λ noted vs ls h.
    let g = c.args.self.now in
    let list = c.args.list in
    let js = listed_instances list in
    let names = c.in-Repeated.names in
    let place = c.in-Repeated.place in
    let repeated = subst (λ (o : Outline). Extends o list (extended.Repeated names c.in-Repeated.list place)) c.replace-outline.ensures.value (subst (Extends c.replace-outline.result list) c.in-Repeated.is c.in_ok-outline.ensures) in
    let listed = c.names.ensures ∙ ap (λ (l : OutlineList). map placed_name (listed_instances l)) repeated.0 in
    let before = faults_before g vs ls js names place c.requires.going c.requires.sound h repeated.1 in
    noted vs (ls ++ list ∷ []) js listed before (λ d. is_among names (outlined_instances g.outline ++ take place js) (get_or js place d) repeated.1.names_are (repeated.1.repeated d)))
    c.note_repeated.ensures
