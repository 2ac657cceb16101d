use Rattle.std.proofs.Common.{◌<◌, ◌≤◌, ◌≢◌, [], ◌++◌, length, map, None, inl, refl, ap, arith, subst, ◌∙◌, take}
use Rattle.std.proofs.lemmas.List.{length-map, take_all}
use Rattle.p21_tree.specs.Views.{plain_instance}
use Rattle.p21_outline.specs.PlacedName.{placed_name}
use Rattle.p21_outline.specs.declared.outline_list.PlacedName.{PlacedName}
use Rattle.p21_reader.specs.Values.{Whole}
use Rattle.p21_checker.specs.Checked.{sound_value}
use Rattle.p21_checker.specs.Gathering.{HasGathered}
use Rattle.p21_checker.proofs.GatheringLemmas.{name_there, parted_names, sound_next}
use Rattle.p21_checker.proofs.gathering.Gathering.note_names.Goals as goal

pub loop-named-preserved : goal.loop-named-preserved
loop-named-preserved c = record {
  going = c.note.ensures.going ∙ c.loop-named.invariant.going;
  noted = λ vs ls is e h.
      let names = c.args.names.now in
      let k = c.loop-named.named-index in
      let before = c.loop-named.invariant.noted vs ls is e h in
      let p = parted_names names is k e c.loop-named-test.true in
      let same = name_there names is k (record { name = 0; at = 0 }) e p c.loop-named-test.true in
      let within : k < length is = omega (arith, c.loop-named-test.true, ap length e, length-map is placed_name) in
      let w : Whole = record { instance = plain_instance p.here; own = None } in
      let noted = c.in_ok-note.ensures.noted (vs ++ map sound_value (take k is)) ls w (ap (λ (n : PlacedName). n.name) same) (ap (λ (n : PlacedName). n.at) same) refl before.0 (inl before.1) in
      subst (λ l. HasGathered c.note.new.self l ls × (c.note.new.self.faults.items ≢ [])) (sound_next vs is k p within) noted;
}

pub returns : goal.returns
returns c = λ vs ls is e h.
    let before = c.loop-named.invariant.noted vs ls is e h in
    let end : length is ≤ c.loop-named.named-index = omega (arith, c.loop-named-test.false, ap length e, length-map is placed_name) in
    subst (λ l. HasGathered c.loop-named.self (vs ++ map sound_value l) ls) (take_all c.loop-named.named-index is end) before.0
