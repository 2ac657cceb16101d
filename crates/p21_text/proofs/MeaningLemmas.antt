-- What the code's tests on a directive say of the digits after it.
use Rattle.std.proofs.Common.{◌≡◌, ◌≢◌, ℕ, ◌<◌, ⊎_elim, true, false, List, drop, slice_index, refl, arith, nat_eq}
use Rattle.std.proofs.lemmas.Bool.Decides.{nat_tests}
use Rattle.p21_text.specs.ItemShapes.{groups_shape, hex_shape, solidus_shape}
use Rattle.p21_text.specs.Values.{run_digits, units, hex_items}
use Rattle.p21_text.specs.Meanings.{AreGroups}
use Rattle.p21_text.proofs.FoundLemmas.{went, run_found, run_hex, run_len}

narrow_groups : (text : List ℕ) → 0 < groups_shape 4 text → AreGroups false (run_digits text)
narrow_groups text h = record { hex = run_hex (drop 4 text); whole = rw (run_len text) (run_found 4 text h).whole }

wide_groups : (text : List ℕ) → 0 < groups_shape 8 text → AreGroups true (run_digits text)
wide_groups text h = record { hex = run_hex (drop 4 text); whole = rw (run_len text) (run_found 8 text h).whole }

-- after `\X` stands a run, if no `\` follows
pub run_groups_are : (text : List ℕ) → 0 < hex_shape text → slice_index text 2 ≢ 92 → AreGroups (nat_eq (slice_index text 2) 52) (run_digits text)
run_groups_are text h other =
    let not_two : nat_eq (slice_index text 2) 92 ≡ false = grind (arith, nat_tests) in
    ⊎_elim
    (λ (narrow : nat_eq (slice_index text 2) 50 ≡ true).
    let wide : nat_eq (slice_index text 2) 52 ≡ false = grind (arith, nat_tests) in
    let k : 0 < groups_shape 4 text = rw (not_two, narrow) at h in
    rw wide (narrow_groups text k))
    (λ (not_narrow : nat_eq (slice_index text 2) 50 ≡ false). ⊎_elim
    (λ (wide : nat_eq (slice_index text 2) 52 ≡ true).
    let k : 0 < groups_shape 8 text = rw (not_two, not_narrow, wide) at h in
    rw wide (wide_groups text k))
    (λ (not_wide : nat_eq (slice_index text 2) 52 ≡ false). absurd (let k : 0 < 0 = rw (not_two, not_narrow, not_wide) at h in omega arith))
    (went (nat_eq (slice_index text 2) 52)))
    (went (nat_eq (slice_index text 2) 50))

pub run_items : (text : List ℕ) → slice_index text 2 ≢ 92 → hex_items text ≡ units (nat_eq (slice_index text 2) 52) (run_digits text)
run_items text other = let not_two : nat_eq (slice_index text 2) 92 ≡ false = grind (arith, nat_tests) in rw not_two refl

-- after a reverse solidus stands `X`, if none of the others does
pub hex_left : (text : List ℕ) → 0 < solidus_shape text → slice_index text 1 ≢ 92 → slice_index text 1 ≢ 80 → slice_index text 1 ≢ 83 → 0 < hex_shape text
hex_left text h not_doubled not_choice not_page =
    let a : nat_eq (slice_index text 1) 92 ≡ false = grind (arith, nat_tests) in
    let b : nat_eq (slice_index text 1) 80 ≡ false = grind (arith, nat_tests) in
    let c : nat_eq (slice_index text 1) 83 ≡ false = grind (arith, nat_tests) in
    ⊎_elim
    (λ (x : nat_eq (slice_index text 1) 88 ≡ true). rw (a, b, c, x) at h)
    (λ (not_x : nat_eq (slice_index text 1) 88 ≡ false). absurd (let k : 0 < 0 = rw (a, b, c, not_x) at h in omega arith))
    (went (nat_eq (slice_index text 1) 88))
