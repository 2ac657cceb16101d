-- The characters of the parts of ISO 8859 by their places.
use Rattle.std.proofs.Common.{◌≡◌, ◌<◌, ◌≤◌, ℕ, Bool, true, false, subst, refl, arith}
use Rattle.std.specs.Prelude.{nat_lt, slice_index, if◌then◌else◌}
use Rattle.std.proofs.lemmas.Bool.Decides.{nat_tests}
use Rattle.p21_json.specs.declared.pages.TheConstants.{PAGES}
use Rattle.p21_json.specs.Characters.{character, page_char, page_place}

chosen : (b : Bool) (p q : ℕ) → b ≡ true → (if b then p else q) ≡ p
chosen true p q e = refl
chosen false p q e = cc

other : (b : Bool) (p q : ℕ) → b ≡ false → (if b then p else q) ≡ q
other true p q e = cc
other false p q e = refl

pub page_there : (l n p : ℕ) → p ≡ page_place l n → p < 768 → page_char l n ≡ character (slice_index PAGES p)
unfolding page_char
page_there l n p e h =
    let t : nat_lt p 768 ≡ true = grind (arith, nat_tests) in
    subst (λ (q : ℕ). (if nat_lt q 768 then character (slice_index PAGES q) else 0xFFFD) ≡ character (slice_index PAGES p)) e (chosen (nat_lt p 768) (character (slice_index PAGES p)) 0xFFFD t)

pub page_nowhere : (l n p : ℕ) → p ≡ page_place l n → 768 ≤ p → page_char l n ≡ 0xFFFD
unfolding page_char
page_nowhere l n p e h =
    let t : nat_lt p 768 ≡ false = grind (arith, nat_tests) in
    subst (λ (q : ℕ). (if nat_lt q 768 then character (slice_index PAGES q) else 0xFFFD) ≡ 0xFFFD) e (other (nat_lt p 768) (character (slice_index PAGES p)) 0xFFFD t)
