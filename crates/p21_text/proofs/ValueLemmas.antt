-- The code's items of a text are those of the table.
use Rattle.std.proofs.Common.{◌≡◌, ◌≢◌, ℕ, zero, suc, ◌+◌, ◌-◌, ◌*◌, ◌/◌, ◌<◌, ◌≤◌, ⊎_elim, true, false, cond, ◌&&◌, List, [], ◌∷◌, ◌++◌, length, take, drop, slice_index, Option, Some, None, refl, sym, ap, ◌∙◌, arith, length-append, append_assoc, nat_eq, nat_le, length-drop}
use Rattle.std.specs.Option.{is_some, unwrap_or}
use Rattle.std.specs.Char.{IsScalar}
use Rattle.std.proofs.lemmas.Bool.Decides.{nat_tests}
use Rattle.std.proofs.lemmas.List.{take_at, drop_at}
use Rattle.bstr.specs.Utf8.{decoded}
use Rattle.p21_text.specs.Items
use Rattle.p21_text.specs.Items.{Item, scalar, page, IsItem, IsItems, IsPlain, IsHexDigit, IsHex, IsGroups, IsUtf16, IsUtf32, IsHigh, IsLow, BeginsLow, IsUtf8Of, BeginsUtf8}
use Rattle.p21_text.specs.ItemShapes.{plain_byte, closing, shape}
use Rattle.p21_text.specs.Values.{hex_digit, hex_from, values, high_unit, low_unit, is_scalar, alone, paired, utf16, utf32, run_digits, units, special_items, items_at, part_after, read}
use Rattle.p21_text.proofs.Utf8Lemmas.{encode_some, utf8_first, utf8_decoded, utf8_none}
use Rattle.p21_text.proofs.ItemShapeLemmas.{AllHex, hex_all, groups_all, item_shape, run_of, plain_yes, high_not_plain, some_length}

hex_digit_is : (b v : ℕ) → IsHexDigit b v → hex_digit b ≡ v
hex_digit_is b v (Items.digit e l) = grind (arith, nat_tests)
hex_digit_is b v (Items.upper e l h) = grind (arith, nat_tests)
hex_digit_is b v (Items.lower e l h) = grind (arith, nat_tests)

hex_from-append : (high : ℕ) (a : List ℕ) (b : ℕ) → hex_from high (a ++ b ∷ []) ≡ 16 * hex_from high a + hex_digit b
hex_from-append high [] b = refl
hex_from-append high (x ∷ a) b = hex_from-append (16 * high + hex_digit x) a b

pub hex_value : (n : ℕ) (text : List ℕ) (v : ℕ) → IsHex n text v → hex_from 0 text ≡ v
hex_value n text v Items.none = refl
hex_value n text v (Items.more {n = m} {b = b} {v = last} {high = high} {digits = digits} en et front back ev) =
    let first = hex_value m digits high front in
    rw et (hex_from-append 0 digits b ∙ (rw (first, hex_digit_is b last back, ev) refl))

pub groups_values : (n : ℕ) (text vs : List ℕ) → IsGroups n text vs → values n (length vs) text ≡ vs
groups_values n text vs Items.none = refl
groups_values n text vs (Items.more {front = front} {rest = rest} {values = others} {v = v} et h g) =
    let len = (hex_all n front v h).1 in
    let first : take n text ≡ front = ap (take n) et ∙ take_at front rest n len in
    let left : drop n text ≡ rest = ap (drop n) et ∙ drop_at front rest n len in
    rw (first, left, hex_value n front v h, groups_values n rest others g) refl

alone_scalar : (u : ℕ) → IsScalar u → alone u ≡ scalar u
alone_scalar u s = let yes : is_scalar u ≡ true = grind (arith, nat_tests) in rw yes refl

alone_other : (u : ℕ) → ¬ (IsScalar u) → alone u ≡ scalar 0xFFFD
alone_other u s = let no : is_scalar u ≡ false = grind (arith, nat_tests) in rw no refl

alone_high : (u : ℕ) → IsHigh u → alone u ≡ scalar 0xFFFD
alone_high u h = let no : is_scalar u ≡ false = grind (arith, nat_tests) in rw no refl

alone_low : (u : ℕ) → IsLow u → alone u ≡ scalar 0xFFFD
alone_low u h = let no : is_scalar u ≡ false = grind (arith, nat_tests) in rw no refl

scalar_not_high : (u : ℕ) → IsScalar u → high_unit u ≡ false
scalar_not_high u s = grind (arith, nat_tests)

low_not_high : (u : ℕ) → IsLow u → high_unit u ≡ false
low_not_high u s = grind (arith, nat_tests)

high_yes : (u : ℕ) → IsHigh u → high_unit u ≡ true
high_yes u s = grind (arith, nat_tests)

low_yes : (u : ℕ) → IsLow u → low_unit u ≡ true
low_yes u s = grind (arith, nat_tests)

low_no : (u : ℕ) → ¬ (IsLow u) → low_unit u ≡ false
low_no u s = grind (arith, nat_tests)

paired_is : (h l c : ℕ) → IsHigh h → IsLow l → c + 0xD800 * 0x400 + 0xDC00 ≡ 0x10000 + 0x400 * h + l → paired h l ≡ scalar c
paired_is h l c hi lo e = let v : 0x10000 + 0x400 * (h - 0xD800) + (l - 0xDC00) ≡ c = omega arith in ap scalar v

pub utf16_is : (us : List ℕ) (is : List Item) → IsUtf16 us is → utf16 us ≡ is
utf16_is us is Items.none = refl
utf16_is us is (Items.plain {u = u} {us = []} {is = more} s h) = rw (alone_scalar u s, utf16_is [] more h) refl
utf16_is us is (Items.plain {u = u} {us = v ∷ vs} {is = more} s h) = rw (scalar_not_high u s, alone_scalar u s, utf16_is (v ∷ vs) more h) refl
utf16_is us is (Items.pair {h = h} {l = l} {c = c} {us = vs} {is = more} hi lo e rest) = rw (high_yes h hi, low_yes l lo, paired_is h l c hi lo e, utf16_is vs more rest) refl
utf16_is us is (Items.high {h = h} {us = []} {is = more} hi stops rest) = rw (alone_high h hi, utf16_is [] more rest) refl
utf16_is us is (Items.high {h = h} {us = v ∷ vs} {is = more} hi stops rest) = rw (high_yes h hi, low_no v stops, alone_high h hi, utf16_is (v ∷ vs) more rest) refl
utf16_is us is (Items.low {l = l} {us = []} {is = more} lo rest) = rw (alone_low l lo, utf16_is [] more rest) refl
utf16_is us is (Items.low {l = l} {us = v ∷ vs} {is = more} lo rest) = rw (low_not_high l lo, alone_low l lo, utf16_is (v ∷ vs) more rest) refl

pub utf32_is : (us : List ℕ) (is : List Item) → IsUtf32 us is → utf32 us ≡ is
utf32_is us is Items.none = refl
utf32_is us is (Items.plain {u = u} {us = vs} {is = more} s h) = rw (alone_scalar u s, utf32_is vs more h) refl
utf32_is us is (Items.other {u = u} {us = vs} {is = more} s h) = rw (alone_other u s, utf32_is vs more h) refl

-- the same items, and the same part after them
abbrev pub Means : ℕ → List ℕ → ℕ → List Item → Type 0
Means part text next items = (items_at part text ≡ items) × (part_after part text ≡ next)

not_solidus : (b : ℕ) → IsPlain b → nat_eq b 92 ≡ false
not_solidus b p = grind (arith, nat_tests)

unwrap_none : (o : Option ℕ) (b : ℕ) → is_some o ≡ false → unwrap_or o b ≡ b
unwrap_none None b e = refl
unwrap_none (Some x) b e = cc

-- a byte above 127, as `items_at` and `part_after` read it
high_items : (b part : ℕ) (text : List ℕ) → 128 ≤ b
    → (cond (plain_byte b) (scalar b ∷ []) (special_items b part text) ≡ scalar (unwrap_or (decoded text).char b) ∷ [])
    × (cond (nat_eq b 92 && nat_eq (slice_index text 1) 80) (slice_index text 2 - 64) part ≡ part)
high_items b part text h =
    let plain : plain_byte b ≡ false = high_not_plain b h in
    let quote : nat_eq b 39 ≡ false = grind (arith, nat_tests) in
    let solidus : nat_eq b 92 ≡ false = grind (arith, nat_tests) in
    let high : nat_le 128 b ≡ true = grind (arith, nat_tests) in
    (rw (plain, quote, solidus, high) refl, rw solidus refl)

-- the digits of a run are its groups
run_groups : (d : ℕ) (groups behind : List ℕ) → AllHex groups → run_digits (92 ∷ 88 ∷ d ∷ 92 ∷ ((groups ++ closing) ++ behind)) ≡ groups
run_groups d groups behind hex =
    let text : List ℕ = 92 ∷ 88 ∷ d ∷ 92 ∷ ((groups ++ closing) ++ behind) in
    ap (λ r. take r (drop 4 text)) (run_of d groups behind hex)
    ∙ ap (take (length groups)) (append_assoc groups closing behind)
    ∙ take_at groups (closing ++ behind) (length groups) refl

narrow_units : (groups vs : List ℕ) (is : List Item) → IsGroups 4 groups vs → IsUtf16 vs is → units false groups ≡ is
narrow_units groups vs is g u =
    let count : length groups / 4 ≡ length vs = omega (arith, (groups_all 4 groups vs g).1) in
    rw (count, groups_values 4 groups vs g) (utf16_is vs is u)

wide_units : (groups vs : List ℕ) (is : List Item) → IsGroups 8 groups vs → IsUtf32 vs is → units true groups ≡ is
wide_units groups vs is g u =
    let count : length groups / 8 ≡ length vs = omega (arith, (groups_all 8 groups vs g).1) in
    rw (count, groups_values 8 groups vs g) (utf32_is vs is u)

pub item_items : (part next : ℕ) (front behind : List ℕ) (items : List Item) → IsItem part front behind next items → Means part (front ++ behind) next items
item_items part next front behind items (Items.plain {b = b} p) = (rw (plain_yes b p) refl, rw (not_solidus b p) refl)
item_items part next front behind items Items.apostrophe = (refl, refl)
item_items part next front behind items Items.solidus = (refl, refl)
item_items part next front behind items (Items.control {b = b} c) =
    ⊎_elim (λ e. rw e (refl, refl)) (λ r. ⊎_elim (λ e. rw e (refl, refl)) (λ e. rw e (refl, refl)) r) c
item_items part next front behind items (Items.utf8 {c = c} h) =
    let both = high_items (slice_index (front ++ behind) 0) part (front ++ behind) (utf8_first c front behind h) in
    (both.0 ∙ ap (λ d. scalar (unwrap_or d.char (slice_index (front ++ behind) 0)) ∷ []) (utf8_decoded c front behind h), both.1)
item_items part next front behind items (Items.byte {b = b} low high stops) =
    let both = high_items b part (b ∷ behind) low in
    (both.0 ∙ ap (λ v. scalar v ∷ []) (unwrap_none (decoded (b ∷ behind)).char b (utf8_none b behind low stops)), both.1)
item_items part next front behind items (Items.choice {chosen = chosen} {b = b} low high e) = (refl, omega arith)
item_items part next front behind items (Items.first_part {c = c} low high e) = (rw e refl, refl)
item_items part next front behind items (Items.other_part {c = c} low high e) = (let no : nat_eq part 1 ≡ false = grind (arith, nat_tests) in rw no refl, refl)
item_items part next front behind items (Items.hex {v = v} {digits = digits} h) =
    let len = (hex_all 2 digits v h).1 in
    (ap (λ l. scalar (hex_from 0 l) ∷ []) (take_at digits behind 2 len) ∙ ap (λ n. scalar n ∷ []) (hex_value 2 digits v h), refl)
item_items part next front behind items (Items.hex2 {groups = groups} {values = vs} e some g u) =
    let hex = (groups_all 4 groups vs g).0 in
    rw e (ap (units false) (run_groups 50 groups behind hex) ∙ narrow_units groups vs items g u, refl)
item_items part next front behind items (Items.hex4 {groups = groups} {values = vs} e some g u) =
    let hex = (groups_all 8 groups vs g).0 in
    rw e (ap (units true) (run_groups 52 groups behind hex) ∙ wide_units groups vs items g u, refl)

drop_shorter : (text : List ℕ) (n fuel : ℕ) → 0 < n → n ≤ length text → length text ≤ suc fuel → length (drop n text) ≤ fuel
drop_shorter text n fuel some within enough = omega (arith, length-drop n text)

-- each item is written by some byte
pub item_long : (part next : ℕ) (front behind : List ℕ) (items : List Item) → IsItem part front behind next items → 0 < length front
item_long part next front behind items (Items.plain p) = omega arith
item_long part next front behind items Items.apostrophe = omega arith
item_long part next front behind items Items.solidus = omega arith
item_long part next front behind items (Items.control c) = omega arith
item_long part next front behind items (Items.utf8 {c = c} h) = some_length front (λ e. encode_some c (sym h.spelled ∙ e))
item_long part next front behind items (Items.byte low high stops) = omega arith
item_long part next front behind items (Items.choice low high e) = omega arith
item_long part next front behind items (Items.first_part low high e) = omega arith
item_long part next front behind items (Items.other_part low high e) = omega arith
item_long part next front behind items (Items.hex h) = omega arith
item_long part next front behind items (Items.hex2 {groups = groups} e some g u) = rw e (omega arith)
item_long part next front behind items (Items.hex4 {groups = groups} e some g u) = rw e (omega arith)

-- the first row of a text that has items, as the code finds it
pub record Row (part : ℕ) (text : List ℕ) (items : List Item) : Type 0 where
  pub others : List Item
  pub first : items ≡ items_at part text ++ others
  pub rest : IsItems (part_after part text) (drop (shape text) text) others
  pub some : 0 < shape text
  pub within : shape text ≤ length text

pub row_of : (part : ℕ) (text : List ℕ) (items : List Item) → text ≢ [] → IsItems part text items → Row part text items
row_of part text items some Items.none = absurd (some refl)
row_of part text items some (Items.more {next = next} {front = front} {rest = rest} {first = first} {others = others} et ei i r) =
    let len : shape text ≡ length front = ap shape et ∙ item_shape part next front rest first i in
    let means = item_items part next front rest first i in
    let items_is : items_at part text ≡ first = ap (items_at part) et ∙ means.0 in
    let part_is : part_after part text ≡ next = ap (part_after part) et ∙ means.1 in
    let left : drop (shape text) text ≡ rest = ap (λ n. drop n text) len ∙ ap (drop (length front)) et ∙ drop_at front rest (length front) refl in
    record {
      others = others;
      first = ei ∙ ap (λ l. l ++ others) (sym items_is);
      rest = rw (part_is, left) r;
      some = rw len (item_long part next front rest first i);
      within = rw len (omega (arith, ap length et, length-append front rest));
    }

nil_items : (part : ℕ) (items : List Item) (text : List ℕ) → text ≡ [] → IsItems part text items → items ≡ []
nil_items part items text e Items.none = refl
nil_items part items text e (Items.more {next = next} {front = front} {rest = rest} {first = first} {others = others} et ei i r) =
    absurd (omega (arith, item_long part next front rest first i, ap length e, ap length et, length-append front rest))

-- the code's items of a text are the only ones
pub read_is : (fuel part : ℕ) (text : List ℕ) (items : List Item) → IsItems part text items → length text ≤ fuel → read fuel part text ≡ items
read_is zero part [] items h enough = sym (nil_items part items [] refl h)
read_is (suc fuel) part [] items h enough = sym (nil_items part items [] refl h)
read_is zero part (b ∷ text) items h enough = absurd (omega arith)
read_is (suc fuel) part (b ∷ text) items h enough =
    let row = row_of part (b ∷ text) items (λ e. cc) h in
    let len : length (drop (shape (b ∷ text)) (b ∷ text)) ≤ fuel = drop_shorter (b ∷ text) (shape (b ∷ text)) fuel row.some row.within enough in
    ap (λ l. items_at part (b ∷ text) ++ l) (read_is fuel (part_after part (b ∷ text)) (drop (shape (b ∷ text)) (b ∷ text)) row.others row.rest len) ∙ sym row.first

pub items_once : (part : ℕ) (text : List ℕ) (a b : List Item) → IsItems part text a → IsItems part text b → a ≡ b
items_once part text a b h k = sym (read_is (length text) part text a h (omega arith)) ∙ read_is (length text) part text b k (omega arith)
