-- How long the item at the front of a text is, as the code finds it: 0 where no item begins.
use Rattle.std.specs.Prelude.{ℕ, ◌+◌, ◌%◌, Bool, ◌&&◌, ◌||◌, not, ◌==◌, nat_lt, nat_le, if◌then◌else◌, List, [], ◌∷◌, drop, slice_index, is_some, nat_eq}
use Rattle.std.specs.List.{prefix_len, starts_with}
use Rattle.bstr.specs.Utf8.{decoded}

abbrev pub plain_byte : ℕ → Bool
plain_byte b = nat_le 32 b && nat_le b 126 && not (b == 39) && not (b == 92)

abbrev pub control_byte : ℕ → Bool
control_byte b = b == 9 || b == 10 || b == 13

abbrev pub hex_byte : ℕ → Bool
hex_byte b = (nat_le 48 b && nat_le b 57) || (nat_le 65 b && nat_le b 70) || (nat_le 97 b && nat_le b 102)

-- `\X0\`, which closes a run of groups
abbrev pub closing : List ℕ
closing = 92 ∷ 88 ∷ 48 ∷ 92 ∷ []

-- the digits after `\X2\` or `\X4\`
abbrev pub digits_run : List ℕ → ℕ
digits_run text = prefix_len hex_byte (drop 4 text)

-- `\P`, a letter from A to I and `\`
abbrev pub choice_shape : List ℕ → ℕ
choice_shape text = if nat_le 65 (slice_index text 2) && nat_le (slice_index text 2) 73 && slice_index text 3 == 92 then 4 else 0

-- `\S\` and a byte from 32 to 126
abbrev pub page_shape : List ℕ → ℕ
page_shape text = if slice_index text 2 == 92 && nat_le 32 (slice_index text 3) && nat_le (slice_index text 3) 126 then 4 else 0

-- `\X\` and two digits
abbrev pub byte_shape : List ℕ → ℕ
byte_shape text = if hex_byte (slice_index text 3) && hex_byte (slice_index text 4) then 5 else 0

-- `\X2\` or `\X4\`, groups of so many digits and `\X0\`
abbrev pub groups_shape : ℕ → List ℕ → ℕ
groups_shape size text = if slice_index text 3 == 92 && nat_lt 0 (digits_run text) && digits_run text % size == 0 && starts_with nat_eq (drop (4 + digits_run text) text) closing then 8 + digits_run text else 0

-- `\X` and what may follow
abbrev pub hex_shape : List ℕ → ℕ
hex_shape text =
    if slice_index text 2 == 92 then byte_shape text
    else (if slice_index text 2 == 50 then groups_shape 4 text else (if slice_index text 2 == 52 then groups_shape 8 text else 0))

-- a reverse solidus and what may follow
abbrev pub solidus_shape : List ℕ → ℕ
solidus_shape text =
    if slice_index text 1 == 92 then 2
    else (if slice_index text 1 == 80 then choice_shape text else (if slice_index text 1 == 83 then page_shape text else (if slice_index text 1 == 88 then hex_shape text else 0)))

-- a byte above 127: a character in UTF-8, or the byte alone
abbrev pub high_shape : List ℕ → ℕ
high_shape text = if is_some (decoded text).char then (decoded text).size else 1

-- a byte that is not plain, and what may follow
abbrev pub special_shape : ℕ → List ℕ → ℕ
special_shape b text =
    if b == 39 then (if slice_index text 1 == 39 then 2 else 0)
    else (if b == 92 then solidus_shape text else (if nat_le 128 b then high_shape text else (if control_byte b then 1 else 0)))

abbrev pub shape : List ℕ → ℕ
shape text = if plain_byte (slice_index text 0) then 1 else special_shape (slice_index text 0) text
