-- What the code finds at the front of a text is a row of the table of items.
use Rattle.std.proofs.Common.{◌≡◌, ◌≢◌, ℕ, zero, suc, ◌+◌, ◌-◌, ◌*◌, ◌/◌, ◌%◌, ◌<◌, ◌≤◌, ◌⊎◌, inl, inr, ⊎_elim, Bool, true, false, cond, ◌&&◌, List, [], ◌∷◌, ◌++◌, length, take, drop, slice_index, Option, Some, None, refl, sym, ap, subst, ◌∙◌, arith, length-append, append_assoc, nat_eq, nat_lt, nat_le, length-drop, length-take-le, add-zero, zero-add, one-add}
use Rattle.std.specs.List.{AllByRecursion, prefix_len, starts_with}
use Rattle.std.specs.Option.{is_some, unwrap_or}
use Rattle.std.specs.Char.{IsScalar}
use Rattle.std.proofs.lemmas.Bool.{cases_lt, and_parts}
use Rattle.std.proofs.lemmas.Bool.Decides.{nat_tests}
use Rattle.std.proofs.lemmas.List.Folds.{length-prefix_len}
use Rattle.std.proofs.lemmas.List.{drop-drop, take_at, take-append-drop, append-nil}
use Rattle.bstr.specs.Utf8.{decoded, good}
use Rattle.p21_text.specs.Items
use Rattle.p21_text.specs.Items.{Item, scalar, page, IsItem, IsItems, IsPlain, IsHexDigit, IsHex, IsGroups, IsUtf16, IsUtf32, IsHigh, IsLow, BeginsLow, IsUtf8Of, BeginsUtf8}
use Rattle.p21_text.specs.ItemShapes.{plain_byte, control_byte, hex_byte, closing, digits_run, choice_shape, page_shape, byte_shape, groups_shape, hex_shape, solidus_shape, high_shape, special_shape, shape}
use Rattle.p21_text.specs.Values.{hex_digit, hex_from, values, high_unit, low_unit, is_scalar, alone, utf16, utf32, run_digits, units, hex_items, page_items, solidus_items, special_items, items_at, part_after}
use Rattle.p21_text.proofs.Utf8Lemmas.{utf8_decoded, utf8_found}
use Rattle.p21_text.proofs.ItemShapeLemmas.{AllHex}

-- which way a test went
pub went : (b : Bool) → (b ≡ true) ⊎ (b ≡ false)
went true = inl refl
went false = inr refl

pub hex_digit_of : (b : ℕ) → hex_byte b ≡ true → IsHexDigit b (hex_digit b)
hex_digit_of b h =
    ⊎_elim
    (λ (low : b < 58). let v : hex_digit b ≡ b - 48 = grind (arith, nat_tests) in rw v (Items.digit {b = b} {v = b - 48} (grind (arith, nat_tests)) (grind (arith, nat_tests))))
    (λ (more : 58 ≤ b). ⊎_elim
    (λ (mid : b < 97). let v : hex_digit b ≡ b - 55 = grind (arith, nat_tests) in rw v (Items.upper {b = b} {v = b - 55} (grind (arith, nat_tests)) (grind (arith, nat_tests)) (grind (arith, nat_tests))))
    (λ (top : 97 ≤ b). let v : hex_digit b ≡ b - 87 = grind (arith, nat_tests) in rw v (Items.lower {b = b} {v = b - 87} (grind (arith, nat_tests)) (grind (arith, nat_tests)) (grind (arith, nat_tests))))
    (cases_lt b 97))
    (cases_lt b 58)

hex_digit_small : (b : ℕ) → hex_byte b ≡ true → hex_digit b < 16
hex_digit_small b h = grind (arith, nat_tests)

hex_behind : (n : ℕ) (front rest : List ℕ) (high : ℕ) → IsHex n front high → AllHex rest → IsHex (n + length rest) (front ++ rest) (hex_from high rest)
hex_behind n front [] high h hex = rw (append-nil, add-zero) h
hex_behind n front (b ∷ rest) high h hex =
    let one : IsHex (n + 1) (front ++ b ∷ []) (16 * high + hex_digit b) = Items.more refl refl h (hex_digit_of b hex.0) refl in
    let all = hex_behind (n + 1) (front ++ b ∷ []) rest (16 * high + hex_digit b) one hex.1 in
    let count : n + 1 + length rest ≡ n + suc (length rest) = omega arith in
    rw (append_assoc front (b ∷ []) rest, count) at all

pub hex_of : (digits : List ℕ) → AllHex digits → IsHex (length digits) digits (hex_from 0 digits)
hex_of digits hex = let h = hex_behind 0 [] digits 0 Items.none hex in rw zero-add at h

all_hex_take : (n : ℕ) (d : List ℕ) → AllHex d → AllHex (take n d)
all_hex_take zero d h = tt
all_hex_take (suc n) [] h = tt
all_hex_take (suc n) (b ∷ d) h = (h.0, all_hex_take n d h.1)

all_hex_drop : (n : ℕ) (d : List ℕ) → AllHex d → AllHex (drop n d)
all_hex_drop zero d h = h
all_hex_drop (suc n) [] h = tt
all_hex_drop (suc n) (b ∷ d) h = all_hex_drop n d h.1

pub groups_of : (n k : ℕ) (digits : List ℕ) → length digits ≡ k * n → AllHex digits → IsGroups n digits (values n k digits)
groups_of n zero [] e h = Items.none
groups_of n zero (b ∷ d) e h = absurd (omega arith)
groups_of n (suc k) digits e h =
    let enough : n ≤ length digits = grind arith in
    let front = hex_of (take n digits) (all_hex_take n digits h) in
    let sized : IsHex n (take n digits) (hex_from 0 (take n digits)) = rw (length-take-le n digits enough) at front in
    Items.more (sym (take-append-drop n digits)) sized (groups_of n k (drop n digits) (grind (arith, length-drop n digits)) (all_hex_drop n digits h))

abbrev Narrow : List ℕ → Type 0
Narrow us = AllByRecursion (λ u. u < 0x10000) us

yes_scalar : (u : ℕ) → is_scalar u ≡ true → IsScalar u
yes_scalar u h = grind (arith, nat_tests)

not_scalar : (u : ℕ) → is_scalar u ≡ false → ¬ (IsScalar u)
not_scalar u h = λ s. grind (arith, nat_tests)

-- a unit that makes no pair
lone : (u : ℕ) (us : List ℕ) (is : List Item) → u < 0x10000 → (IsHigh u → ¬ (BeginsLow us)) → IsUtf16 us is → IsUtf16 (u ∷ us) (alone u ∷ is)
lone u us is small unpaired h =
    ⊎_elim
    (λ yes. rw yes (Items.plain (yes_scalar u yes) h))
    (λ no. rw no (⊎_elim
    (λ high. Items.high (grind (arith, nat_tests), grind (arith, nat_tests)) (unpaired (grind (arith, nat_tests), grind (arith, nat_tests))) h)
    (λ other. Items.low (grind (arith, nat_tests), grind (arith, nat_tests)) h)
    (went (high_unit u))))
    (went (is_scalar u))

pair_sum : (h l : ℕ) → IsHigh h → IsLow l → 0x10000 + 0x400 * (h - 0xD800) + (l - 0xDC00) + 0xD800 * 0x400 + 0xDC00 ≡ 0x10000 + 0x400 * h + l
pair_sum h l hi lo = omega arith

utf16_of : (us : List ℕ) → Narrow us → IsUtf16 us (utf16 us)
utf16_of [] h = Items.none
utf16_of (u ∷ []) h = lone u [] [] h.0 (λ high low. low) Items.none
utf16_of (u ∷ v ∷ us) h =
    let more = utf16_of us h.1.1 in
    let next = utf16_of (v ∷ us) h.1 in
    ⊎_elim
    (λ yes.
    let hi : IsHigh u = (grind (arith, nat_tests), grind (arith, nat_tests)) in
    let lo : IsLow v = (grind (arith, nat_tests), grind (arith, nat_tests)) in
    rw yes (Items.pair hi lo (pair_sum u v hi lo) more))
    (λ no. rw no (lone u (v ∷ us) (utf16 (v ∷ us)) h.0 (λ high low. absurd (grind (arith, nat_tests))) next))
    (went (high_unit u && low_unit v))

utf32_of : (us : List ℕ) → IsUtf32 us (utf32 us)
utf32_of [] = Items.none
utf32_of (u ∷ us) =
    ⊎_elim (λ yes. rw yes (Items.plain (yes_scalar u yes) (utf32_of us)))
    (λ no. rw no (Items.other (not_scalar u no) (utf32_of us)))
    (went (is_scalar u))

four_small : (a b c d : ℕ) → a < 16 → b < 16 → c < 16 → d < 16 → 16 * (16 * (16 * (0 + a) + b) + c) + d < 0x10000
four_small a b c d ha hb hc hd = omega arith

narrow_values : (k : ℕ) (digits : List ℕ) → length digits ≡ k * 4 → AllHex digits → Narrow (values 4 k digits)
narrow_values zero digits e h = tt
narrow_values (suc k) (a ∷ b ∷ c ∷ d ∷ digits) e h = (
  four_small (hex_digit a) (hex_digit b) (hex_digit c) (hex_digit d) (hex_digit_small a h.0) (hex_digit_small b h.1.0) (hex_digit_small c h.1.1.0) (hex_digit_small d h.1.1.1.0),
  narrow_values k digits (omega arith) h.1.1.1.1,
)
narrow_values (suc k) [] e h = absurd (omega arith)
narrow_values (suc k) (a ∷ []) e h = absurd (omega arith)
narrow_values (suc k) (a ∷ b ∷ []) e h = absurd (omega arith)
narrow_values (suc k) (a ∷ b ∷ c ∷ []) e h = absurd (omega arith)

pub narrow_found : (digits : List ℕ) → length digits % 4 ≡ 0 → AllHex digits → IsGroups 4 digits (values 4 (length digits / 4) digits) × IsUtf16 (values 4 (length digits / 4) digits) (units false digits)
narrow_found digits whole h =
    let count : length digits ≡ length digits / 4 * 4 = omega arith in
    (groups_of 4 (length digits / 4) digits count h, utf16_of (values 4 (length digits / 4) digits) (narrow_values (length digits / 4) digits count h))

pub wide_found : (digits : List ℕ) → length digits % 8 ≡ 0 → AllHex digits → IsGroups 8 digits (values 8 (length digits / 8) digits) × IsUtf32 (values 8 (length digits / 8) digits) (units true digits)
wide_found digits whole h =
    let count : length digits ≡ length digits / 8 * 8 = omega arith in
    (groups_of 8 (length digits / 8) digits count h, utf32_of (values 8 (length digits / 8) digits))

-- a run of digits
pub run_hex : (text : List ℕ) → AllHex (take (prefix_len hex_byte text) text)
run_hex [] = tt
run_hex (b ∷ text) =
    ⊎_elim
    (λ (yes : hex_byte b ≡ true).
    let longer : prefix_len hex_byte (b ∷ text) ≡ suc (prefix_len hex_byte text) = rw yes (one-add (prefix_len hex_byte text)) in
    let all : AllHex (take (suc (prefix_len hex_byte text)) (b ∷ text)) = (yes, run_hex text) in
    subst (λ n. AllHex (take n (b ∷ text))) (sym longer) all)
    (λ (none : hex_byte b ≡ false). rw none tt)
    (went (hex_byte b))

-- a byte that is not 0 stands within the text
pub stands : (text : List ℕ) (i : ℕ) → slice_index text i ≢ 0 → i < length text
stands [] i h = absurd (h refl)
stands (b ∷ text) zero h = omega arith
stands (b ∷ text) (suc i) h = let more = stands text i h in omega arith

pub take_one : (text : List ℕ) → slice_index text 0 ≢ 0 → take 1 text ≡ slice_index text 0 ∷ []
take_one [] h = absurd (h refl)
take_one (a ∷ text) h = refl

pub take_two : (text : List ℕ) → slice_index text 1 ≢ 0 → take 2 text ≡ slice_index text 0 ∷ slice_index text 1 ∷ []
take_two [] h = absurd (h refl)
take_two (a ∷ []) h = absurd (h refl)
take_two (a ∷ b ∷ text) h = refl

pub take_four : (text : List ℕ) → slice_index text 3 ≢ 0 → take 4 text ≡ slice_index text 0 ∷ slice_index text 1 ∷ slice_index text 2 ∷ slice_index text 3 ∷ []
take_four [] h = absurd (h refl)
take_four (a ∷ []) h = absurd (h refl)
take_four (a ∷ b ∷ []) h = absurd (h refl)
take_four (a ∷ b ∷ c ∷ []) h = absurd (h refl)
take_four (a ∷ b ∷ c ∷ d ∷ text) h = refl

-- a condition that gives something else than 0
pub held : (b : Bool) (n : ℕ) → 0 < cond b n 0 → b ≡ true
held true n h = refl
held false n h = absurd (omega arith)

-- a list that begins with another
pub begins_with : (tail mark : List ℕ) → starts_with nat_eq tail mark ≡ true → tail ≡ mark ++ drop (length mark) tail
begins_with tail [] h = refl
begins_with [] (m ∷ mark) h = cc
begins_with (t ∷ tail) (m ∷ mark) h =
    let parts = and_parts (nat_eq m t) (starts_with nat_eq tail mark) h in
    let same : t ≡ m = grind (arith, nat_tests, parts.0) in
    let others : tail ≡ mark ++ drop (length mark) tail = begins_with tail mark parts.1 in
    cc

-- what the code finds at the front, as a row of the table with this after it
abbrev pub IsFound : ℕ → List ℕ → List ℕ → Type 0
IsFound part text behind = IsItem part (take (shape text) text) behind (part_after part text) (items_at part text)

-- a plain byte
found_plain : (part : ℕ) (text behind : List ℕ) → plain_byte (slice_index text 0) ≡ true → IsFound part text behind
found_plain part text behind h =
    let b : ℕ = slice_index text 0 in
    let some : b ≢ 0 = λ e. grind (arith, nat_tests) in
    let solidus : nat_eq b 92 ≡ false = grind (arith, nat_tests) in
    let is : IsPlain b = (grind (arith, nat_tests), grind (arith, nat_tests), λ e. grind (arith, nat_tests), λ e. grind (arith, nat_tests)) in
    rw (h, solidus, take_one text some) (Items.plain is)

found_choice : (part : ℕ) (text behind : List ℕ) → slice_index text 0 ≡ 92 → slice_index text 1 ≡ 80 → 0 < choice_shape text
    → IsItem part (take (choice_shape text) text) behind (slice_index text 2 - 64) []
found_choice part text behind e0 e1 h =
    let letter : ℕ = slice_index text 2 in
    let test : (nat_le 65 letter && nat_le letter 73 && nat_eq (slice_index text 3) 92) ≡ true = held _ 4 h in
    let parts = and_parts (nat_le 65 letter && nat_le letter 73) (nat_eq (slice_index text 3) 92) test in
    let e3 : slice_index text 3 ≡ 92 = grind (arith, nat_tests, parts.1) in
    let low : 65 ≤ letter = grind (arith, nat_tests, parts.0) in
    let high : letter ≤ 73 = grind (arith, nat_tests, parts.0) in
    let some : slice_index text 3 ≢ 0 = λ e. omega arith in
    rw (test, take_four text some, e0, e1, e3) (Items.choice {part = part} {chosen = letter - 64} {b = letter} (omega arith) (omega arith) (omega arith))

found_page : (part : ℕ) (text behind : List ℕ) → slice_index text 0 ≡ 92 → slice_index text 1 ≡ 83 → 0 < page_shape text
    → IsItem part (take (page_shape text) text) behind part (page_items part (slice_index text 3))
found_page part text behind e0 e1 h =
    let byte : ℕ = slice_index text 3 in
    let test : (nat_eq (slice_index text 2) 92 && nat_le 32 byte && nat_le byte 126) ≡ true = held _ 4 h in
    let parts = and_parts (nat_eq (slice_index text 2) 92 && nat_le 32 byte) (nat_le byte 126) test in
    let first = and_parts (nat_eq (slice_index text 2) 92) (nat_le 32 byte) parts.0 in
    let e2 : slice_index text 2 ≡ 92 = grind (arith, nat_tests, first.0) in
    let low : 32 ≤ byte = grind (arith, nat_tests, first.1) in
    let high : byte ≤ 126 = grind (arith, nat_tests, parts.1) in
    let some : slice_index text 3 ≢ 0 = λ e. omega arith in
    rw (test, take_four text some, e0, e1, e2)
    (⊎_elim
    (λ (one : nat_eq part 1 ≡ true). let is : part ≡ 1 = grind (arith, nat_tests) in rw one (Items.first_part low high is))
    (λ (other : nat_eq part 1 ≡ false). let is : part ≢ 1 = λ e. grind (arith, nat_tests) in rw other (Items.other_part low high is))
    (went (nat_eq part 1)))

pub take_five : (text : List ℕ) → slice_index text 4 ≢ 0 → take 5 text ≡ slice_index text 0 ∷ slice_index text 1 ∷ slice_index text 2 ∷ take 2 (drop 3 text)
take_five [] h = absurd (h refl)
take_five (a ∷ []) h = absurd (h refl)
take_five (a ∷ b ∷ []) h = absurd (h refl)
take_five (a ∷ b ∷ c ∷ []) h = absurd (h refl)
take_five (a ∷ b ∷ c ∷ d ∷ []) h = absurd (h refl)
take_five (a ∷ b ∷ c ∷ d ∷ e ∷ text) h = refl

two_hex : (text : List ℕ) → hex_byte (slice_index text 3) ≡ true → hex_byte (slice_index text 4) ≡ true → IsHex 2 (take 2 (drop 3 text)) (hex_from 0 (take 2 (drop 3 text)))
two_hex [] x y = cc
two_hex (a ∷ []) x y = cc
two_hex (a ∷ b ∷ []) x y = cc
two_hex (a ∷ b ∷ c ∷ []) x y = cc
two_hex (a ∷ b ∷ c ∷ d ∷ []) x y = cc
two_hex (a ∷ b ∷ c ∷ d ∷ e ∷ text) x y = hex_of (d ∷ e ∷ []) (x, (y, tt))

not_nil : (b : ℕ) → hex_byte b ≡ true → b ≢ 0
not_nil b h e = grind (arith, nat_tests)

found_byte : (part : ℕ) (text behind : List ℕ) → slice_index text 0 ≡ 92 → slice_index text 1 ≡ 88 → slice_index text 2 ≡ 92 → 0 < byte_shape text
    → IsItem part (take (byte_shape text) text) behind part (scalar (hex_from 0 (take 2 (drop 3 text))) ∷ [])
found_byte part text behind e0 e1 e2 h =
    let test : (hex_byte (slice_index text 3) && hex_byte (slice_index text 4)) ≡ true = held _ 5 h in
    let parts = and_parts (hex_byte (slice_index text 3)) (hex_byte (slice_index text 4)) test in
    let some = not_nil (slice_index text 4) parts.1 in
    rw (test, take_five text some, e0, e1, e2) (Items.hex (two_hex text parts.0 parts.1))

-- what stands after `\X2\` or `\X4\`, as the test on it says
pub record IsRun (size : ℕ) (text : List ℕ) : Type 0 where
  pub solidus : slice_index text 3 ≡ 92
  pub some : 0 < digits_run text
  pub whole : digits_run text % size ≡ 0
  pub closes : starts_with nat_eq (drop (4 + digits_run text) text) closing ≡ true
  pub len : groups_shape size text ≡ 8 + digits_run text

pub run_found : (size : ℕ) (text : List ℕ) → 0 < groups_shape size text → IsRun size text
run_found size text h =
    let r : ℕ = digits_run text in
    let a : Bool = nat_eq (slice_index text 3) 92 in
    let b : Bool = nat_lt 0 r in
    let c : Bool = nat_eq (r % size) 0 in
    let d : Bool = starts_with nat_eq (drop (4 + r) text) closing in
    let test : (a && b && c && d) ≡ true = held _ (8 + r) h in
    let last = and_parts (a && b && c) d test in
    let third = and_parts (a && b) c last.0 in
    let first = and_parts a b third.0 in
    record {
      solidus = grind (arith, nat_tests, first.0);
      some = grind (arith, nat_tests, first.1);
      whole = grind (arith, nat_tests, third.1);
      closes = last.1;
      len = rw test refl;
    }

pub run_len : (text : List ℕ) → length (run_digits text) ≡ digits_run text
run_len text = length-prefix_len hex_byte (drop 4 text)

run_some : (text : List ℕ) → 0 < digits_run text → run_digits text ≢ []
run_some text some e = let empty : digits_run text ≡ 0 = sym (run_len text) ∙ ap length e in omega arith

-- a directive with a run: its bytes are the mark, the digits and `\X0\`
take_run : (text more : List ℕ) → slice_index text 3 ≡ 92 → drop (4 + digits_run text) text ≡ closing ++ more
    → take (8 + digits_run text) text ≡ slice_index text 0 ∷ slice_index text 1 ∷ slice_index text 2 ∷ 92 ∷ (run_digits text ++ closing)
take_run [] more e3 e = cc
take_run (a ∷ []) more e3 e = cc
take_run (a ∷ b ∷ []) more e3 e = cc
take_run (a ∷ b ∷ c ∷ []) more e3 e = cc
take_run (a ∷ b ∷ c ∷ d ∷ rest) more e3 e =
    let r : ℕ = prefix_len hex_byte rest in
    let left : drop r rest ≡ closing ++ more = drop-drop r 4 (a ∷ b ∷ c ∷ d ∷ rest) ∙ e in
    let parts : rest ≡ (take r rest ++ closing) ++ more = sym (take-append-drop r rest) ∙ ap (λ l. take r rest ++ l) left ∙ sym (append_assoc (take r rest) closing more) in
    let len : length (take r rest ++ closing) ≡ r + 4 = length-append (take r rest) closing ∙ ap (λ n. n + 4) (length-prefix_len hex_byte rest) in
    let whole : a ∷ b ∷ c ∷ d ∷ rest ≡ (a ∷ b ∷ c ∷ 92 ∷ (take r rest ++ closing)) ++ more = ap (λ x. a ∷ b ∷ c ∷ x ∷ rest) e3 ∙ ap (λ l. a ∷ b ∷ c ∷ 92 ∷ l) parts in
    ap (take (8 + r)) whole ∙ take_at (a ∷ b ∷ c ∷ 92 ∷ (take r rest ++ closing)) more (8 + r) (omega arith)

found_narrow : (part : ℕ) (text behind : List ℕ) → slice_index text 0 ≡ 92 → slice_index text 1 ≡ 88 → slice_index text 2 ≡ 50 → 0 < groups_shape 4 text
    → IsItem part (take (groups_shape 4 text) text) behind part (units false (run_digits text))
found_narrow part text behind e0 e1 e2 h =
    let run = run_found 4 text h in
    let found = narrow_found (run_digits text) (rw (run_len text) run.whole) (run_hex (drop 4 text)) in
    let bytes : take (groups_shape 4 text) text ≡ 92 ∷ 88 ∷ 50 ∷ 92 ∷ (run_digits text ++ closing) = ap (λ n. take n text) run.len ∙ take_run text (drop 4 (drop (4 + digits_run text) text)) run.solidus (begins_with (drop (4 + digits_run text) text) closing run.closes) ∙ (rw (e0, e1, e2) refl) in
    Items.hex2 bytes (run_some text run.some) found.0 found.1

found_wide : (part : ℕ) (text behind : List ℕ) → slice_index text 0 ≡ 92 → slice_index text 1 ≡ 88 → slice_index text 2 ≡ 52 → 0 < groups_shape 8 text
    → IsItem part (take (groups_shape 8 text) text) behind part (units true (run_digits text))
found_wide part text behind e0 e1 e2 h =
    let run = run_found 8 text h in
    let found = wide_found (run_digits text) (rw (run_len text) run.whole) (run_hex (drop 4 text)) in
    let bytes : take (groups_shape 8 text) text ≡ 92 ∷ 88 ∷ 52 ∷ 92 ∷ (run_digits text ++ closing) = ap (λ n. take n text) run.len ∙ take_run text (drop 4 (drop (4 + digits_run text) text)) run.solidus (begins_with (drop (4 + digits_run text) text) closing run.closes) ∙ (rw (e0, e1, e2) refl) in
    Items.hex4 bytes (run_some text run.some) found.0 found.1

found_hex : (part : ℕ) (text behind : List ℕ) → slice_index text 0 ≡ 92 → slice_index text 1 ≡ 88 → 0 < hex_shape text
    → IsItem part (take (hex_shape text) text) behind part (hex_items text)
found_hex part text behind e0 e1 h =
    ⊎_elim
    (λ (two : nat_eq (slice_index text 2) 92 ≡ true).
    let e2 : slice_index text 2 ≡ 92 = grind (arith, nat_tests) in
    let k : 0 < byte_shape text = rw two at h in
    rw two (found_byte part text behind e0 e1 e2 k))
    (λ (not_two : nat_eq (slice_index text 2) 92 ≡ false). ⊎_elim
    (λ (narrow : nat_eq (slice_index text 2) 50 ≡ true).
    let e2 : slice_index text 2 ≡ 50 = grind (arith, nat_tests) in
    let wide : nat_eq (slice_index text 2) 52 ≡ false = grind (arith, nat_tests) in
    let k : 0 < groups_shape 4 text = rw (not_two, narrow) at h in
    rw (not_two, narrow, wide) (found_narrow part text behind e0 e1 e2 k))
    (λ (not_narrow : nat_eq (slice_index text 2) 50 ≡ false). ⊎_elim
    (λ (wide : nat_eq (slice_index text 2) 52 ≡ true).
    let e2 : slice_index text 2 ≡ 52 = grind (arith, nat_tests) in
    let k : 0 < groups_shape 8 text = rw (not_two, not_narrow, wide) at h in
    rw (not_two, not_narrow, wide) (found_wide part text behind e0 e1 e2 k))
    (λ (not_wide : nat_eq (slice_index text 2) 52 ≡ false). absurd (let k : 0 < 0 = rw (not_two, not_narrow, not_wide) at h in omega arith))
    (went (nat_eq (slice_index text 2) 52)))
    (went (nat_eq (slice_index text 2) 50)))
    (went (nat_eq (slice_index text 2) 92))

-- the part after a reverse solidus
abbrev solidus_part : ℕ → List ℕ → ℕ
solidus_part part text = cond (nat_eq (slice_index text 1) 80) (slice_index text 2 - 64) part

found_solidus : (part : ℕ) (text behind : List ℕ) → slice_index text 0 ≡ 92 → 0 < solidus_shape text
    → IsItem part (take (solidus_shape text) text) behind (solidus_part part text) (solidus_items part text)
found_solidus part text behind e0 h =
    let second : ℕ = slice_index text 1 in
    ⊎_elim
    (λ (doubled : nat_eq second 92 ≡ true).
    let e1 : second ≡ 92 = grind (arith, nat_tests) in
    let some : second ≢ 0 = λ e. omega arith in
    let not_p : nat_eq second 80 ≡ false = grind (arith, nat_tests) in
    rw (doubled, not_p, take_two text some, e0, e1) Items.solidus)
    (λ (not_doubled : nat_eq second 92 ≡ false). ⊎_elim
    (λ (p : nat_eq second 80 ≡ true).
    let e1 : second ≡ 80 = grind (arith, nat_tests) in
    let k : 0 < choice_shape text = rw (not_doubled, p) at h in
    rw (not_doubled, p) (found_choice part text behind e0 e1 k))
    (λ (not_p : nat_eq second 80 ≡ false). ⊎_elim
    (λ (s : nat_eq second 83 ≡ true).
    let e1 : second ≡ 83 = grind (arith, nat_tests) in
    let k : 0 < page_shape text = rw (not_doubled, not_p, s) at h in
    rw (not_doubled, not_p, s) (found_page part text behind e0 e1 k))
    (λ (not_s : nat_eq second 83 ≡ false). ⊎_elim
    (λ (x : nat_eq second 88 ≡ true).
    let e1 : second ≡ 88 = grind (arith, nat_tests) in
    let k : 0 < hex_shape text = rw (not_doubled, not_p, not_s, x) at h in
    rw (not_doubled, not_p, not_s, x) (found_hex part text behind e0 e1 k))
    (λ (not_x : nat_eq second 88 ≡ false). absurd (let k : 0 < 0 = rw (not_doubled, not_p, not_s, not_x) at h in omega arith))
    (went (nat_eq second 88)))
    (went (nat_eq second 83)))
    (went (nat_eq second 80)))
    (went (nat_eq second 92))

-- where a character begins, the decoder finds one
begins_some : (text : List ℕ) → 128 ≤ slice_index text 0 → BeginsUtf8 text → ¬ ((decoded text).char ≡ None)
begins_some text above b none =
    let found : decoded text ≡ good b.code (length b.front) = ap decoded b.parts ∙ utf8_decoded b.code b.front b.rest b.character in
    let is : (decoded text).char ≡ Some b.code = ap (λ d. d.char) found in
    cc (sym none ∙ is)

-- a byte above 127, where no character begins in the body that does not begin in the text
found_high : (part : ℕ) (text behind : List ℕ) → 128 ≤ slice_index text 0 → slice_index text 0 < 256
    → (found : Option ℕ) → (cond (is_some found) (decoded text).size 1 ≡ 1 → BeginsUtf8 (slice_index text 0 ∷ behind) → BeginsUtf8 text) → (decoded text).char ≡ found
    → IsItem part (take (cond (is_some found) (decoded text).size 1) text) behind part (scalar (unwrap_or found (slice_index text 0)) ∷ [])
found_high part text behind above small (Some c) same e = Items.utf8 (utf8_found text c above e).0
found_high part text behind above small None same e =
    let some : slice_index text 0 ≢ 0 = λ z. omega arith in
    rw (take_one text some) (Items.byte above small (λ b. begins_some text above (same refl b) e))

not_control_zero : (b : ℕ) → control_byte b ≡ true → b ≢ 0
not_control_zero b h e = grind (arith, nat_tests)

which_control : (b : ℕ) → control_byte b ≡ true → (b ≡ 9) ⊎ ((b ≡ 10) ⊎ (b ≡ 13))
which_control b h =
    ⊎_elim
    (λ (tab : nat_eq b 9 ≡ true). let e : b ≡ 9 = grind (arith, nat_tests) in inl e)
    (λ (not_tab : nat_eq b 9 ≡ false). ⊎_elim
    (λ (feed : nat_eq b 10 ≡ true). let e : b ≡ 10 = grind (arith, nat_tests) in inr (inl e))
    (λ (not_feed : nat_eq b 10 ≡ false). let e : b ≡ 13 = grind (arith, nat_tests) in inr (inr e))
    (went (nat_eq b 10)))
    (went (nat_eq b 9))

special_by : (b part : ℕ) (text behind : List ℕ) → slice_index text 0 ≡ b → b < 256 → (special_shape b text ≡ 1 → BeginsUtf8 (b ∷ behind) → BeginsUtf8 text) → 0 < special_shape b text
    → IsItem part (take (special_shape b text) text) behind (cond (nat_eq b 92) (solidus_part part text) part) (special_items b part text)
special_by b part text behind e0 small same h =
    ⊎_elim
    (λ (quote : nat_eq b 39 ≡ true).
    let not_solidus : nat_eq b 92 ≡ false = grind (arith, nat_tests) in
    let k : 0 < cond (nat_eq (slice_index text 1) 39) 2 0 = rw quote at h in
    let doubled = held (nat_eq (slice_index text 1) 39) 2 k in
    let e1 : slice_index text 1 ≡ 39 = grind (arith, nat_tests) in
    let first : slice_index text 0 ≡ 39 = grind (arith, nat_tests) in
    let some : slice_index text 1 ≢ 0 = λ e. omega arith in
    rw (quote, not_solidus, doubled, take_two text some, first, e1) Items.apostrophe)
    (λ (not_quote : nat_eq b 39 ≡ false). ⊎_elim
    (λ (solidus : nat_eq b 92 ≡ true).
    let first : slice_index text 0 ≡ 92 = grind (arith, nat_tests) in
    let k : 0 < solidus_shape text = rw (not_quote, solidus) at h in
    rw (not_quote, solidus) (found_solidus part text behind first k))
    (λ (not_solidus : nat_eq b 92 ≡ false). ⊎_elim
    (λ (high : nat_le 128 b ≡ true).
    let above : 128 ≤ b = grind (arith, nat_tests) in
    let above' : 128 ≤ slice_index text 0 = omega arith in
    let small' : slice_index text 0 < 256 = omega arith in
    let one_is : special_shape b text ≡ high_shape text = rw (not_quote, not_solidus, high) refl in
    let same' = λ (one : high_shape text ≡ 1). subst (λ v. BeginsUtf8 (v ∷ behind) → BeginsUtf8 text) (sym e0) (same (one_is ∙ one)) in
    rw (not_quote, not_solidus, high)
    (subst (λ v. IsItem part (take (high_shape text) text) behind part (scalar (unwrap_or (decoded text).char v) ∷ [])) e0
    (found_high part text behind above' small' (decoded text).char same' refl)))
    (λ (not_high : nat_le 128 b ≡ false).
    let k : 0 < cond (control_byte b) 1 0 = rw (not_quote, not_solidus, not_high) at h in
    let control = held (control_byte b) 1 k in
    let some : slice_index text 0 ≢ 0 = λ e. not_control_zero b control (sym e0 ∙ e) in
    rw (not_quote, not_solidus, not_high, control, take_one text some, e0) (Items.control (which_control b control)))
    (went (nat_le 128 b)))
    (went (nat_eq b 92)))
    (went (nat_eq b 39))

abbrev part_by : ℕ → ℕ → List ℕ → ℕ
part_by b part text = cond (nat_eq b 92 && nat_eq (slice_index text 1) 80) (slice_index text 2 - 64) part

split_test : (a b : Bool) (m n : ℕ) → cond (a && b) m n ≡ cond a (cond b m n) n
split_test true b m n = refl
split_test false b m n = refl

-- the part after it, by two tests or by one and then the other
part_is : (b part : ℕ) (text : List ℕ) → part_by b part text ≡ cond (nat_eq b 92) (solidus_part part text) part
part_is b part text = split_test (nat_eq b 92) (nat_eq (slice_index text 1) 80) (slice_index text 2 - 64) part

-- What the code finds at the front is a row of the table, whatever part is chosen. `behind` is what follows it in
-- the body: no character begins there that does not begin in the text.
pub found : (part : ℕ) (text behind : List ℕ) → slice_index text 0 < 256 → (shape text ≡ 1 → BeginsUtf8 (slice_index text 0 ∷ behind) → BeginsUtf8 text) → 0 < shape text → IsFound part text behind
found part text behind small same h =
    let b : ℕ = slice_index text 0 in
    ⊎_elim
    (λ (plain : plain_byte b ≡ true). found_plain part text behind plain)
    (λ (special : plain_byte b ≡ false).
    let k : 0 < special_shape b text = rw special at h in
    let same' = λ (one : special_shape b text ≡ 1). same (rw special one) in
    rw (special, part_is b part text) (special_by b part text behind refl small same' k))
    (went (plain_byte b))
