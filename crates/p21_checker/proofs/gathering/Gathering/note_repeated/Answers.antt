use Rattle.std.proofs.Common.{◌∷◌, ◌++◌, [], List, get_or, map, ap, subst, take, ◌∙◌}
use Rattle.p21_tree.specs.declared.faults.FaultKind.TheVariants as kind
use Rattle.p21_join.specs.InstanceNames.{IsAmong}
use Rattle.p21_outline.specs.PlacedName.{placed_name}
use Rattle.p21_outline.specs.declared.outline_list.PlacedName.{PlacedName}
use Rattle.p21_checker.specs.Checked.{sound_value}
use Rattle.p21_checker.specs.Gathering.{HasGathered}
use Rattle.p21_checker.proofs.GatheringLemmas.{gathered_again, names_behind, names_from, on_ok, parted_names, parted_values}
use Rattle.p21_checker.proofs.gathering.Gathering.note_repeated.Goals as goal

pub returns : goal.returns
returns c =
    on_ok c.note_names.result _ _
    (λ noted vs ls is e h again.
    let g = c.args.self.now in
    let names = c.args.names.now in
    let back = c.split_at.result.1.now in
    let p = parted_names names is c.args.place e c.requires.within in
    let from = names_from names back is c.args.place e c.split_at.ensures.back p in
    let behind = names_behind back (map placed_name p.later) (placed_name p.here) from in
    let at = ap (λ (l : List PlacedName). (get_or l 0 (record { name = 0; at = 0 })).at) from in
    let items = c.in_ok-push.ensures.items ∙ (ap (λ l. l ++ record { kind = kind.DuplicateName; at = (get_or back 0 (record { name = 0; at = 0 })).at } ∷ []) c.requires.sound ∙ ap (λ a. record { kind = kind.DuplicateName; at = a } ∷ []) at) in
    let among = subst (λ i. IsAmong g.names i.name) p.stands (again p.here) in
    let first = gathered_again (record g { faults = c.push.new.self }) (vs ++ map sound_value (take c.args.place is)) ls p.here c.requires.going h among items in
    subst (λ l. HasGathered c.note_names.new.self l ls) (parted_values vs is c.args.place p) (noted ((vs ++ map sound_value (take c.args.place is)) ++ sound_value p.here ∷ []) ls p.later behind first))
    c.note_names.ensures
