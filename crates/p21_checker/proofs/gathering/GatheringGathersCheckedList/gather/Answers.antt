use Rattle.std.proofs.Common.{◌∷◌, ◌++◌, [], map, subst, append_assoc}
use Rattle.p21_outline.specs.OutlineList.{listed_instances}
use Rattle.p21_checker.specs.Checked.{outlines_of, sound_value, value_of, values_in, values_of}
use Rattle.p21_checker.specs.Gathering.{HasGathered}
use Rattle.p21_checker.proofs.GatheringLemmas.{gathered_ended, gathered_list, on_ok}
use Rattle.p21_checker.proofs.gathering.GatheringGathersCheckedList.gather.Goals as goal

pub returns-then-self : goal.returns-then-self
returns-then-self c = λ outs h.
    let g = c.args.self.now in
    let out = c.args.out in
    gathered_list g outs out (gathered_ended g (values_of outs) (values_in out) (outlines_of outs) (outlines_of outs ++ out.sound ∷ []) c.if-self.true h).0

pub returns : goal.returns
returns c =
    let out = c.args.out in
    on_ok c.gather_rest.result _ _
    (λ gathered outs h.
    let sound = c.in_ok-gather_sound.ensures (values_of outs) (outlines_of outs) h in
    let all = gathered (values_of outs ++ map sound_value (listed_instances out.sound)) (outlines_of outs ++ out.sound ∷ []) out.first sound in
    gathered_list c.gather_rest.new.self outs out
    (subst (λ vs. HasGathered c.gather_rest.new.self vs (outlines_of outs ++ out.sound ∷ [])) (append_assoc (values_of outs) (map sound_value (listed_instances out.sound)) (map value_of out.rest.items)) all))
    c.gather_rest.ensures
