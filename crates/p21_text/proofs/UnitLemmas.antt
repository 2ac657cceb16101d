-- The characters of groups of digits, one by one.
use Rattle.std.proofs.Common.{◌≡◌, ℕ, suc, ◌/◌, ◌%◌, ◌<◌, ◌≤◌, ⊎_elim, Bool, true, false, cond, ◌&&◌, List, [], ◌∷◌, length, take, drop, refl, sym, ap, subst, ◌∙◌, arith, length-drop}
use Rattle.std.proofs.lemmas.Bool.{cases_lt}
use Rattle.std.proofs.lemmas.List.{drop-drop}
use Rattle.p21_text.specs.Items.{Item}
use Rattle.p21_text.specs.Values.{hex_from, values, high_unit, low_unit, alone, paired, utf16, utf32, units}

-- the groups of some digits, the first one apart
values_four : (digits : List ℕ) → 4 ≤ length digits → values 4 (length digits / 4) digits ≡ hex_from 0 (take 4 digits) ∷ values 4 (length (drop 4 digits) / 4) (drop 4 digits)
values_four digits h =
    let count : length digits / 4 ≡ suc (length (drop 4 digits) / 4) = omega (arith, length-drop 4 digits) in
    ap (λ k. values 4 k digits) count

values_eight : (digits : List ℕ) → 8 ≤ length digits → values 8 (length digits / 8) digits ≡ hex_from 0 (take 8 digits) ∷ values 8 (length (drop 8 digits) / 8) (drop 8 digits)
values_eight digits h =
    let count : length digits / 8 ≡ suc (length (drop 8 digits) / 8) = omega (arith, length-drop 8 digits) in
    ap (λ k. values 8 k digits) count

-- eight digits or more, in groups of eight
pub units_wide : (digits : List ℕ) → 8 ≤ length digits → units true digits ≡ alone (hex_from 0 (take 8 digits)) ∷ units true (drop 8 digits)
units_wide digits h = ap utf32 (values_eight digits h)

first_two : (digits : List ℕ) → 8 ≤ length digits
    → values 4 (length digits / 4) digits ≡ hex_from 0 (take 4 digits) ∷ hex_from 0 (take 4 (drop 4 digits)) ∷ values 4 (length (drop 8 digits) / 4) (drop 8 digits)
first_two digits h =
    let more : 4 ≤ length (drop 4 digits) = omega (arith, length-drop 4 digits) in
    values_four digits (omega arith) ∙ ap (λ l. hex_from 0 (take 4 digits) ∷ l) (values_four (drop 4 digits) more
    ∙ ap (λ d. hex_from 0 (take 4 (drop 4 digits)) ∷ values 4 (length d / 4) d) (drop-drop 4 4 digits))

-- a pair of surrogates
pub units_pair : (digits : List ℕ) → 8 ≤ length digits → high_unit (hex_from 0 (take 4 digits)) ≡ true → low_unit (hex_from 0 (take 4 (drop 4 digits))) ≡ true
    → units false digits ≡ paired (hex_from 0 (take 4 digits)) (hex_from 0 (take 4 (drop 4 digits))) ∷ units false (drop 8 digits)
units_pair digits h high low = ap utf16 (first_two digits h) ∙ (rw (high, low) refl)

utf16_lone : (u : ℕ) (us : List ℕ) → ((v : ℕ) (vs : List ℕ) → us ≡ v ∷ vs → (high_unit u && low_unit v) ≡ false) → utf16 (u ∷ us) ≡ alone u ∷ utf16 us
utf16_lone u [] h = refl
utf16_lone u (v ∷ vs) h = rw (h v vs refl) refl

first_same : {a b : ℕ} {ks ms : List ℕ} → a ∷ ks ≡ b ∷ ms → a ≡ b
first_same e = cc

-- a unit that makes no pair with the next
pub units_lone : (digits : List ℕ) → 4 ≤ length digits → length digits % 4 ≡ 0 → (8 ≤ length digits → (high_unit (hex_from 0 (take 4 digits)) && low_unit (hex_from 0 (take 4 (drop 4 digits)))) ≡ false)
    → units false digits ≡ alone (hex_from 0 (take 4 digits)) ∷ units false (drop 4 digits)
units_lone digits h whole unpaired =
    ap utf16 (values_four digits h) ∙ utf16_lone (hex_from 0 (take 4 digits)) (values 4 (length (drop 4 digits) / 4) (drop 4 digits)) next_not where
      next_not : (v : ℕ) (vs : List ℕ) → values 4 (length (drop 4 digits) / 4) (drop 4 digits) ≡ v ∷ vs → (high_unit (hex_from 0 (take 4 digits)) && low_unit v) ≡ false
      next_not v vs e =
          ⊎_elim
          (λ (short : length digits < 8).
          let none : length (drop 4 digits) / 4 ≡ 0 = omega (arith, length-drop 4 digits) in
          let empty : [] ≡ v ∷ vs = sym (ap (λ k. values 4 k (drop 4 digits)) none) ∙ e in cc)
          (λ (long : 8 ≤ length digits).
          let more : 4 ≤ length (drop 4 digits) = omega (arith, length-drop 4 digits) in
          let first : hex_from 0 (take 4 (drop 4 digits)) ≡ v = first_same (sym (values_four (drop 4 digits) more) ∙ e) in
          subst (λ x. (high_unit (hex_from 0 (take 4 digits)) && low_unit x) ≡ false) first (unpaired long))
          (cases_lt (length digits) 8)

false_left : (a b : Bool) → a ≡ false → (a && b) ≡ false
false_left a b e = rw e refl

false_right : (a b : Bool) → b ≡ false → (a && b) ≡ false
false_right true b e = e
false_right false b e = refl

pub not_high : (digits : List ℕ) (u : ℕ) (b : Bool) → u ≡ hex_from 0 (take 4 digits) → b ≡ high_unit u → b ≡ false → (high_unit (hex_from 0 (take 4 digits)) && low_unit (hex_from 0 (take 4 (drop 4 digits)))) ≡ false
not_high digits u b e h f = false_left _ _ (ap high_unit (sym e) ∙ sym h ∙ f)

pub not_low : (digits : List ℕ) (v : ℕ) (b : Bool) → v ≡ hex_from 0 (take 4 (drop 4 digits)) → b ≡ low_unit v → b ≡ false → (high_unit (hex_from 0 (take 4 digits)) && low_unit (hex_from 0 (take 4 (drop 4 digits)))) ≡ false
not_low digits v b e h f = false_right (high_unit (hex_from 0 (take 4 digits))) _ (ap low_unit (sym e) ∙ sym h ∙ f)

-- what the code gives for a unit, with its digits left
pub gives_wide : (digits : List ℕ) (wide : Bool) (v : ℕ) (x : Item) → wide ≡ true → 4 ≤ length digits → length digits % (cond wide 8 4) ≡ 0 → v ≡ hex_from 0 (take 8 digits) → x ≡ alone v
    → units wide digits ≡ x ∷ units wide (drop 8 digits)
gives_wide digits wide v x is some whole e f =
    let eights : length digits % 8 ≡ 0 = rw is at whole in
    let long : 8 ≤ length digits = omega arith in
    rw (is, f, e) (units_wide digits long)

pub gives_pair : (digits : List ℕ) (wide high low : Bool) (u v : ℕ) (x : Item) → wide ≡ false → 8 ≤ length digits → u ≡ hex_from 0 (take 4 digits) → v ≡ hex_from 0 (take 4 (drop 4 digits))
    → high ≡ high_unit u → high ≡ true → low ≡ low_unit v → low ≡ true → x ≡ paired u v → units wide digits ≡ x ∷ units wide (drop 8 digits)
gives_pair digits wide high low u v x is long e f h ht l lt g =
    rw (is, g, e, f) (units_pair digits long (ap high_unit (sym e) ∙ sym h ∙ ht) (ap low_unit (sym f) ∙ sym l ∙ lt))

pub gives_lone : (digits : List ℕ) (wide : Bool) (u : ℕ) (x : Item) → wide ≡ false → 4 ≤ length digits → length digits % (cond wide 8 4) ≡ 0 → u ≡ hex_from 0 (take 4 digits) → x ≡ alone u
    → (8 ≤ length digits → (high_unit (hex_from 0 (take 4 digits)) && low_unit (hex_from 0 (take 4 (drop 4 digits)))) ≡ false) → units wide digits ≡ x ∷ units wide (drop 4 digits)
gives_lone digits wide u x is some whole e f unpaired =
    let fours : length digits % 4 ≡ 0 = rw is at whole in
    rw (is, f, e) (units_lone digits some fours unpaired)
