-- The items at the front of a body, and all of a body's, as the code finds them.
use Rattle.std.specs.Prelude.{ℕ, zero, suc, ◌+◌, ◌-◌, ◌*◌, ◌/◌, Bool, ◌&&◌, ◌||◌, ◌==◌, nat_lt, nat_le, if◌then◌else◌, List, [], ◌∷◌, ◌++◌, length, take, drop, map, slice_index, unwrap_or}
use Rattle.bstr.specs.Utf8.{decoded}
use Rattle.p21_text.specs.Items.{Item, scalar, page}
use Rattle.p21_text.specs.ItemShapes.{plain_byte, shape, digits_run}

-- the value of a digit to the base 16
abbrev pub hex_digit : ℕ → ℕ
hex_digit b = if nat_lt b 58 then b - 48 else (if nat_lt b 97 then b - 55 else b - 87)

-- the value of digits to the base 16, after those of the value `high`
abbrev pub hex_from : ℕ → List ℕ → ℕ
hex_from high [] = high
hex_from high (b ∷ rest) = hex_from (16 * high + hex_digit b) rest

-- the values of so many groups of so many digits
abbrev pub values : ℕ → ℕ → List ℕ → List ℕ
values size zero digits = []
values size (suc count) digits = hex_from 0 (take size digits) ∷ values size count (drop size digits)

abbrev pub high_unit : ℕ → Bool
high_unit u = nat_le 0xD800 u && nat_lt u 0xDC00

abbrev pub low_unit : ℕ → Bool
low_unit u = nat_le 0xDC00 u && nat_lt u 0xE000

abbrev pub is_scalar : ℕ → Bool
is_scalar u = nat_lt u 0xD800 || (nat_le 0xE000 u && nat_lt u 0x110000)

-- a unit by itself
abbrev pub alone : ℕ → Item
alone u = scalar (if is_scalar u then u else 0xFFFD)

-- a high surrogate and a low one
abbrev pub paired : ℕ → ℕ → Item
paired h l = scalar (0x10000 + 0x400 * (h - 0xD800) + (l - 0xDC00))

abbrev pub utf16 : List ℕ → List Item
utf16 [] = []
utf16 (u ∷ []) = alone u ∷ []
utf16 (u ∷ v ∷ us) = if high_unit u && low_unit v then paired u v ∷ utf16 us else alone u ∷ utf16 (v ∷ us)

abbrev pub utf32 : List ℕ → List Item
utf32 us = map alone us

-- the digits after `\X2\` or `\X4\`
abbrev pub run_digits : List ℕ → List ℕ
run_digits text = take (digits_run text) (drop 4 text)

-- the characters of groups of four digits, or of eight
abbrev pub units : Bool → List ℕ → List Item
units wide digits = if wide then utf32 (values 8 (length digits / 8) digits) else utf16 (values 4 (length digits / 4) digits)

abbrev pub hex_items : List ℕ → List Item
hex_items text = if slice_index text 2 == 92 then scalar (hex_from 0 (take 2 (drop 3 text))) ∷ [] else units (slice_index text 2 == 52) (run_digits text)

abbrev pub page_items : ℕ → ℕ → List Item
page_items part c = (if part == 1 then scalar (128 + c) else page (64 + part) (128 + c)) ∷ []

abbrev pub solidus_items : ℕ → List ℕ → List Item
solidus_items part text =
    if slice_index text 1 == 92 then scalar 92 ∷ []
    else (if slice_index text 1 == 80 then [] else (if slice_index text 1 == 83 then page_items part (slice_index text 3) else hex_items text))

abbrev pub special_items : ℕ → ℕ → List ℕ → List Item
special_items b part text =
    if b == 39 then scalar 39 ∷ []
    else (if b == 92 then solidus_items part text else (if nat_le 128 b then scalar (unwrap_or (decoded text).char b) ∷ [] else []))

-- the items of the first row of the table that applies
abbrev pub items_at : ℕ → List ℕ → List Item
items_at part text = if plain_byte (slice_index text 0) then scalar (slice_index text 0) ∷ [] else special_items (slice_index text 0) part text

-- the part of ISO 8859 after a reverse solidus
abbrev pub solidus_part : ℕ → List ℕ → ℕ
solidus_part part text = if slice_index text 1 == 80 then slice_index text 2 - 64 else part

-- the part after a byte that is not plain
abbrev pub special_part : ℕ → ℕ → List ℕ → ℕ
special_part b part text = if b == 92 then solidus_part part text else part

-- the part of ISO 8859 after it
abbrev pub part_after : ℕ → List ℕ → ℕ
part_after part text = if slice_index text 0 == 92 && slice_index text 1 == 80 then slice_index text 2 - 64 else part

-- the items of a text, in so many steps at most
abbrev pub read : ℕ → ℕ → List ℕ → List Item
read zero part text = []
read (suc fuel) part [] = []
read (suc fuel) part (b ∷ rest) = items_at part (b ∷ rest) ++ read fuel (part_after part (b ∷ rest)) (drop (shape (b ∷ rest)) (b ∷ rest))
