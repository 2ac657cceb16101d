use Rattle.std.proofs.Common.{◌<◌, ◌≡◌, ◌∙◌, Bool, List, ap, get_or, length, subst, sym, arith}
use Rattle.std.proofs.lemmas.List.{length-map}
use Rattle.p21_express.specs.Plain.{plain_type}
use Rattle.p21_schema.specs.Place.{no_type}
use Rattle.p21_json.specs.Flags.{AreSound, IsFlaggedUnder}
use Rattle.p21_json.proofs.FlagLemmas.{sound_set}
use Rattle.p21_json.proofs.logical.flag_next.Goals as goal

pub returns-then-lacks_flag-clause-sound : goal.returns-then-lacks_flag-clause-sound
returns-then-lacks_flag-clause-sound c =
    let s = c.args.schema.now in
    let same = c.loop-place.invariant.0 in
    let long : length c.args.types.now ≡ length s.types = sym (length-map c.args.types.now plain_type) ∙ ap length c.requires.types in
    let below : c.loop-place.place < length s.types = omega (arith, c.loop-place-test.true) in
    let lacks = (c.lacks_flag.ensures.lacking c.if-lacks_flag.true).1 in
    let u = (get_or s.types c.loop-place.place no_type).under in
    sound_set s c.loop-place.flags.items c.loop-place.place (ap length same ∙ c.requires.count) below (subst (λ (flags : List Bool). AreSound s flags) (sym same) c.requires.sound) (subst (λ (flags : List Bool). IsFlaggedUnder s flags u) c.deref.ensures.value lacks)
