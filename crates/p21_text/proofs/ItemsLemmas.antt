-- An iterator over the items of a string goes on row by row.
use Rattle.std.proofs.Common.{◌≡◌, ℕ, zero, suc, ◌%◌, ◌<◌, ◌≤◌, Bool, true, false, cond, ◌&&◌, List, [], ◌∷◌, ◌++◌, length, take, drop, refl, sym, ap, ◌∙◌, arith, length-append, append_assoc, length-drop, lt-ltb, nat_lt, Option, Some, None, ◌^◌}
use Rattle.std.specs.List.{list_all}
use Rattle.std.specs.Option.{option_to_list, option_map, MatchOption}
use Rattle.std.proofs.Props.{props}
use Rattle.std.proofs.lemmas.Bool.{and_parts}
use Rattle.std.proofs.lemmas.Bool.Decides.{nat_tests}
use Rattle.std.proofs.lemmas.List.{take-append-drop}
use mathlib.Core.Logic.{∥∥₁_elim}
use Rattle.p21_text.specs.Items
use Rattle.p21_text.specs.Items.{Item, IsItem, IsItems, IsGroups, IsUtf16, IsUtf32, ItemsOf, IsBody}
use Rattle.p21_text.specs.ItemShapes.{hex_byte, shape}
use Rattle.p21_text.specs.Values.{units, items_at, part_after, read}
use Rattle.p21_text.specs.declared.meaning.Progress.{Progress}
use Rattle.p21_text.specs.declared.meaning.StrItem.{StrItem}
use Rattle.p21_text.specs.Meanings.{AreBytes, AreHex, IsReadable, Proceeds, item_of}
use Rattle.p21_text.proofs.ItemShapeLemmas.{groups_all}
use Rattle.p21_text.proofs.ValueLemmas.{item_long, row_of, read_is}
use Rattle.p21_text.proofs.FoundLemmas.{found}
use Rattle.p21_text.proofs.StringLemmas.{bytes_drop, one_same}

-- each byte of the text belongs to an item
walks : ℕ → List ℕ → Bool
walks fuel [] = true
walks zero (b ∷ text) = false
walks (suc fuel) (b ∷ text) = nat_lt 0 (shape (b ∷ text)) && walks fuel (drop (shape (b ∷ text)) (b ∷ text))

shorter : (text : List ℕ) (n fuel : ℕ) → 0 < n → n ≤ length text → length text ≤ suc fuel → length (drop n text) ≤ fuel
shorter text n fuel some within enough = omega (arith, length-drop n text)

walks_yes : (fuel part : ℕ) (text : List ℕ) (items : List Item) → IsItems part text items → length text ≤ fuel → walks fuel text ≡ true
unfolding walks
walks_yes zero part [] items h enough = refl
walks_yes (suc fuel) part [] items h enough = refl
walks_yes zero part (b ∷ text) items h enough = absurd (omega arith)
walks_yes (suc fuel) part (b ∷ text) items h enough =
    let r = row_of part (b ∷ text) items (λ e. cc) h in
    let rest = walks_yes fuel (part_after part (b ∷ text)) (drop (shape (b ∷ text)) (b ∷ text)) r.others r.rest (shorter (b ∷ text) (shape (b ∷ text)) fuel r.some r.within enough) in
    rw (lt-ltb 0 (shape (b ∷ text)) r.some, rest) refl

items_by : (fuel part : ℕ) (text : List ℕ) → AreBytes text → walks fuel text ≡ true → IsItems part text (read fuel part text)
unfolding walks
items_by zero part [] bytes h = Items.none
items_by (suc fuel) part [] bytes h = Items.none
items_by zero part (b ∷ text) bytes h = cc
items_by (suc fuel) part (b ∷ text) bytes h =
    let whole : List ℕ = b ∷ text in
    let parts = and_parts (nat_lt 0 (shape whole)) (walks fuel (drop (shape whole) whole)) h in
    let some : 0 < shape whole = grind (arith, nat_tests, parts.0) in
    let first = found part whole (drop (shape whole) whole) (bytes 0) (one_same whole) some in
    Items.more (sym (take-append-drop (shape whole) whole)) refl first (items_by fuel (part_after part whole) (drop (shape whole) whole) (bytes_drop (shape whole) whole bytes) parts.1)

-- a readable text has the code's items
pub items_of_readable : (part : ℕ) (text : List ℕ) → AreBytes text → IsReadable part text → IsItems part text (read (length text) part text)
items_of_readable part text bytes h =
    items_by (length text) part text bytes (∥∥₁_elim h (hlevel props) (λ i. walks_yes (length text) part text i.0 i.1 (omega arith)))

-- what is known of the first row of a readable text that is not empty
pub record Step (part : ℕ) (text : List ℕ) : Type 0 where
  pub some : 0 < shape text
  pub within : shape text ≤ length text
  pub split : read (length text) part text ≡ items_at part text ++ read (length (drop (shape text) text)) (part_after part text) (drop (shape text) text)
  pub readable : IsReadable (part_after part text) (drop (shape text) text)
  pub row : IsItem part (take (shape text) text) (drop (shape text) text) (part_after part text) (items_at part text)

pub step_of : (part : ℕ) (text : List ℕ) → AreBytes text → IsReadable part text → 0 < length text → Step part text
step_of part text bytes h long =
    let items = items_of_readable part text bytes h in
    let r = row_of part text (read (length text) part text) (λ e. absurd (let none : length text ≡ 0 = ap length e in omega arith)) items in
    let rest = read_is (length (drop (shape text) text)) (part_after part text) (drop (shape text) text) r.others r.rest (omega arith) in
    record {
      some = r.some;
      within = r.within;
      split = r.first ∙ ap (λ l. items_at part text ++ l) (sym rest);
      readable = ∣ (r.others, r.rest) ∣₁;
      row = found part text (drop (shape text) text) (bytes 0) (one_same text) r.some;
    }

-- a choice stays within the nine parts
pub next_small : (part next : ℕ) (front behind : List ℕ) (items : List Item) → IsItem part front behind next items → part ≤ 9 → next ≤ 9
next_small part next front behind items (Items.plain p) small = small
next_small part next front behind items Items.apostrophe small = small
next_small part next front behind items Items.solidus small = small
next_small part next front behind items (Items.control c) small = small
next_small part next front behind items (Items.utf8 h) small = small
next_small part next front behind items (Items.byte low high stops) small = small
next_small part next front behind items (Items.choice low high e) small = high
next_small part next front behind items (Items.first_part low high e) small = small
next_small part next front behind items (Items.other_part low high e) small = small
next_small part next front behind items (Items.hex h) small = small
next_small part next front behind items (Items.hex2 e some g u) small = small
next_small part next front behind items (Items.hex4 e some g u) small = small

utf16_fewer : (us : List ℕ) (is : List Item) → IsUtf16 us is → length is ≤ length us
utf16_fewer us is Items.none = omega arith
utf16_fewer us is (Items.plain {us = vs} {is = js} s h) = let more = utf16_fewer vs js h in omega arith
utf16_fewer us is (Items.pair {us = vs} {is = js} hi lo e h) = let more = utf16_fewer vs js h in omega arith
utf16_fewer us is (Items.high {us = vs} {is = js} hi stops h) = let more = utf16_fewer vs js h in omega arith
utf16_fewer us is (Items.low {us = vs} {is = js} lo h) = let more = utf16_fewer vs js h in omega arith

utf32_fewer : (us : List ℕ) (is : List Item) → IsUtf32 us is → length is ≤ length us
utf32_fewer us is Items.none = omega arith
utf32_fewer us is (Items.plain {us = vs} {is = js} s h) = let more = utf32_fewer vs js h in omega arith
utf32_fewer us is (Items.other {us = vs} {is = js} s h) = let more = utf32_fewer vs js h in omega arith

item_fewer : (part next : ℕ) (front behind : List ℕ) (items : List Item) → IsItem part front behind next items → length items ≤ length front
item_fewer part next front behind items (Items.plain p) = omega arith
item_fewer part next front behind items Items.apostrophe = omega arith
item_fewer part next front behind items Items.solidus = omega arith
item_fewer part next front behind items (Items.control c) = omega arith
item_fewer part next front behind items (Items.utf8 h) = item_long part next front behind items (Items.utf8 h)
item_fewer part next front behind items (Items.byte low high stops) = omega arith
item_fewer part next front behind items (Items.choice low high e) = omega arith
item_fewer part next front behind items (Items.first_part low high e) = omega arith
item_fewer part next front behind items (Items.other_part low high e) = omega arith
item_fewer part next front behind items (Items.hex h) = omega arith
item_fewer part next front behind items (Items.hex2 {groups = groups} {values = vs} e some g u) =
    let few = utf16_fewer vs items u in let long = (groups_all 4 groups vs g).1 in rw e (omega (arith, length-append groups (92 ∷ 88 ∷ 48 ∷ 92 ∷ [])))
item_fewer part next front behind items (Items.hex4 {groups = groups} {values = vs} e some g u) =
    let few = utf32_fewer vs items u in let long = (groups_all 8 groups vs g).1 in rw e (omega (arith, length-append groups (92 ∷ 88 ∷ 48 ∷ 92 ∷ [])))

-- a text has at most as many items as bytes
pub items_fewer : (part : ℕ) (text : List ℕ) (items : List Item) → IsItems part text items → length items ≤ length text
items_fewer part text items Items.none = omega arith
items_fewer part text items (Items.more {next = next} {front = front} {rest = rest} {first = first} {others = others} et ei i r) =
    let a = item_fewer part next front rest first i in
    let b = items_fewer next rest others r in
    omega (arith, ap length et, ap length ei, length-append front rest, length-append first others)

pub hex_all_of : (digits : List ℕ) → list_all hex_byte digits ≡ true → AreHex digits
hex_all_of [] h = tt
hex_all_of (b ∷ digits) h = let parts = and_parts (hex_byte b) (list_all hex_byte digits) h in (parts.0, hex_all_of digits parts.1)

pub hex_list : (digits : List ℕ) → AreHex digits → list_all hex_byte digits ≡ true
hex_list [] h = refl
hex_list (b ∷ digits) h = rw (h.0, hex_list digits h.1) refl

no_units : (wide : Bool) (digits : List ℕ) → length digits ≡ 0 → units wide digits ≡ []
no_units true [] e = refl
no_units false [] e = refl
no_units wide (b ∷ digits) e = absurd (omega arith)

left_shorter : (rest left : List ℕ) (n : ℕ) → 0 < n → n ≤ length rest → left ≡ drop n rest → length left < length rest
left_shorter rest left n some within e = omega (arith, ap length e, length-drop n rest)

-- one row further
pub record Advanced (rest digits : List ℕ) (part : ℕ) (wide : Bool) (p : Progress) (left : List ℕ) : Type 0 where
  pub readable : IsReadable p.part left
  pub known : p.part ≤ 9
  pub hex : list_all hex_byte p.digits.now ≡ true
  pub whole : length p.digits.now % (cond p.wide 8 4) ≡ 0
  pub yields : units wide digits ++ read (length rest) part rest ≡ option_to_list (option_map item_of p.item) ++ (units p.wide p.digits.now ++ read (length left) p.part left)
  pub shorter : length left < length rest
  pub bytes : AreBytes left

pub advanced : (rest digits : List ℕ) (part : ℕ) (wide : Bool) (size : ℕ) (p : Progress) (left : List ℕ) → AreBytes rest → IsReadable part rest → part ≤ 9 → length digits ≡ 0 → 0 < length rest
    → size ≡ shape rest → Proceeds p (items_at part rest) (part_after part rest) → left ≡ drop size rest → Advanced rest digits part wide p left
advanced rest digits part wide size p left bytes h small none some e goes l =
    let step = step_of part rest bytes h some in
    let behind : left ≡ drop (shape rest) rest = l ∙ ap (λ n. drop n rest) e in
    record {
      readable = rw (goes.part_is, behind) step.readable;
      known = rw (goes.part_is) (next_small part (part_after part rest) (take (shape rest) rest) (drop (shape rest) rest) (items_at part rest) step.row small);
      hex = hex_list p.digits.now goes.groups.hex;
      whole = goes.groups.whole;
      yields =
          ap (λ u. u ++ read (length rest) part rest) (no_units wide digits none) ∙ step.split
          ∙ ap (λ i. i ++ read (length (drop (shape rest) rest)) (part_after part rest) (drop (shape rest) rest)) goes.items_are
          ∙ append_assoc (option_to_list (option_map item_of p.item)) (units p.wide p.digits.now) (read (length (drop (shape rest) rest)) (part_after part rest) (drop (shape rest) rest))
          ∙ ap (λ d. option_to_list (option_map item_of p.item) ++ (units p.wide p.digits.now ++ read (length d) (part_after part rest) d)) (sym behind)
          ∙ ap (λ q. option_to_list (option_map item_of p.item) ++ (units p.wide p.digits.now ++ read (length left) q left)) (sym goes.part_is);
      shorter = left_shorter rest left (shape rest) step.some step.within behind;
      bytes = rw behind (bytes_drop (shape rest) rest bytes);
    }

-- no more is left than before
pub left_fits : (o : List Item) (a b : List Item) → a ≡ o ++ b → length a < 2 ^ 64 → length b < 2 ^ 64
left_fits o a b e h = omega (arith, ap length e, length-append o b)

pub yields_one : (o : Option StrItem) (a b : List Item) → a ≡ option_to_list (option_map item_of o) ++ b → MatchOption o (a ≡ b) (λ x. a ≡ item_of x ∷ b)
yields_one None a b e = e
yields_one (Some x) a b e = e
