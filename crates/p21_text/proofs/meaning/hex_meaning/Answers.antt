use Rattle.std.proofs.Common.{◌≡◌, ◌≢◌, ℕ, List, ◌+◌, ◌-◌, take, drop, slice_index, refl, ◌∙◌, arith, nat_eq, ◌<◌}
use Rattle.p21_text.specs.ItemShapes.{digits_run, hex_shape}
use Rattle.p21_text.specs.Values.{hex_items, units}
use Rattle.p21_text.specs.Meanings.{AreGroups}
use Rattle.p21_text.proofs.MeaningLemmas.{run_groups_are, run_items}
use Rattle.p21_text.proofs.meaning.hex_meaning.Goals as goal

run_means : (text : List ℕ) (part third digits : ℕ) → 0 < hex_shape text → third ≡ slice_index text 2 → third ≢ 92 → digits ≡ digits_run text
    → (hex_items text ≡ units (nat_eq third 52) (take (4 + digits - 4) (drop 4 text))) × (part ≡ part) × AreGroups (nat_eq third 52) (take (4 + digits - 4) (drop 4 text))
run_means text part third digits h e other d =
    let count : 4 + digits - 4 ≡ digits_run text = omega arith in
    let not_two : slice_index text 2 ≢ 92 = λ q. other (e ∙ q) in
    rw (count, e) (run_items text not_two, refl, run_groups_are text h not_two)

pub returns : goal.returns
returns c = run_means c.args.text.now c.args.part c.byte_at-third.result c.digits_len-digits.result c.requires c.byte_at-third.ensures c.if-third-eq92.false c.digits_len-digits.ensures.run
