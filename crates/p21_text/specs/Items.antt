-- The items of a string, by the table of what is written.
use Rattle.std.specs.Prelude.{◌≡◌, ◌≢◌, ℕ, ◌+◌, ◌*◌, ◌<◌, ◌≤◌, ◌⊎◌, List, [], ◌∷◌, ◌++◌, encode_utf8}
use Rattle.std.specs.Char.{IsScalar}

-- a character by its number, or a character of a page of ISO 8859: the page's letter and the number
pub data Item : Type 0 where
  scalar : ℕ → Item
  page : ℕ → ℕ → Item

-- a character above 127 in UTF-8
pub record IsUtf8Of (c : ℕ) (text : List ℕ) : Type 0 where
  pub scalar : IsScalar c
  pub above : 128 ≤ c
  pub spelled : text ≡ encode_utf8 c

-- a character above 127 stands at the front in UTF-8
pub record BeginsUtf8 (text : List ℕ) : Type 0 where
  pub code : ℕ
  pub front : List ℕ
  pub rest : List ℕ
  pub character : IsUtf8Of code front
  pub parts : text ≡ front ++ rest

-- a digit to the base 16, in either case, and its value
pub data IsHexDigit : ℕ → ℕ → Type 0 where
  digit : {b v : ℕ} → b ≡ 48 + v → v < 10 → IsHexDigit b v
  upper : {b v : ℕ} → b ≡ 55 + v → 10 ≤ v → v < 16 → IsHexDigit b v
  lower : {b v : ℕ} → b ≡ 87 + v → 10 ≤ v → v < 16 → IsHexDigit b v

-- n digits to the base 16 and their value
pub data IsHex : ℕ → List ℕ → ℕ → Type 0 where
  none : IsHex 0 [] 0
  more : {n m b v high value : ℕ} {digits text : List ℕ} → m ≡ n + 1 → text ≡ digits ++ b ∷ [] → IsHex n digits high → IsHexDigit b v → value ≡ 16 * high + v → IsHex m text value

-- groups of n digits to the base 16, and their values
pub data IsGroups (n : ℕ) : List ℕ → List ℕ → Type 0 where
  none : IsGroups n [] []
  more : {text front rest values : List ℕ} {v : ℕ} → text ≡ front ++ rest → IsHex n front v → IsGroups n rest values → IsGroups n text (v ∷ values)

abbrev pub IsHigh : ℕ → Type 0
IsHigh u = (0xD800 ≤ u) × (u < 0xDC00)

abbrev pub IsLow : ℕ → Type 0
IsLow u = (0xDC00 ≤ u) × (u < 0xE000)

-- the first of some values is a low surrogate
abbrev pub BeginsLow : List ℕ → Type 0
BeginsLow [] = ⊥
BeginsLow (u ∷ us) = IsLow u

-- units of 16 bits and their characters: a high surrogate and the low one next after it are one character,
-- a surrogate alone is U+FFFD
pub data IsUtf16 : List ℕ → List Item → Type 0 where
  none : IsUtf16 [] []
  plain : {u : ℕ} {us : List ℕ} {is : List Item} → IsScalar u → IsUtf16 us is → IsUtf16 (u ∷ us) (scalar u ∷ is)
  pair : {h l c : ℕ} {us : List ℕ} {is : List Item} → IsHigh h → IsLow l → c + 0xD800 * 0x400 + 0xDC00 ≡ 0x10000 + 0x400 * h + l → IsUtf16 us is → IsUtf16 (h ∷ l ∷ us) (scalar c ∷ is)
  high : {h : ℕ} {us : List ℕ} {is : List Item} → IsHigh h → ¬ (BeginsLow us) → IsUtf16 us is → IsUtf16 (h ∷ us) (scalar 0xFFFD ∷ is)
  low : {l : ℕ} {us : List ℕ} {is : List Item} → IsLow l → IsUtf16 us is → IsUtf16 (l ∷ us) (scalar 0xFFFD ∷ is)

-- units of 32 bits and their characters: what is no character is U+FFFD
pub data IsUtf32 : List ℕ → List Item → Type 0 where
  none : IsUtf32 [] []
  plain : {u : ℕ} {us : List ℕ} {is : List Item} → IsScalar u → IsUtf32 us is → IsUtf32 (u ∷ us) (scalar u ∷ is)
  other : {u : ℕ} {us : List ℕ} {is : List Item} → ¬ (IsScalar u) → IsUtf32 us is → IsUtf32 (u ∷ us) (scalar 0xFFFD ∷ is)

-- a byte that stands for itself
abbrev pub IsPlain : ℕ → Type 0
IsPlain b = (32 ≤ b) × (b ≤ 126) × (b ≢ 39) × (b ≢ 92)

-- One case of the table: the part of ISO 8859 before, the bytes written, the bytes after them, the part
-- after, and the items. Parts count from 1; the letter of part p is the byte 64 + p.
-- One case for each row of the table of string items of docs/FORMAT.md.
pub data IsItem : ℕ → List ℕ → List ℕ → ℕ → List Item → Type 0 where
  plain : {part b : ℕ} {behind : List ℕ} → IsPlain b → IsItem part (b ∷ []) behind part (scalar b ∷ [])
  apostrophe : {part : ℕ} {behind : List ℕ} → IsItem part (39 ∷ 39 ∷ []) behind part (scalar 39 ∷ [])
  solidus : {part : ℕ} {behind : List ℕ} → IsItem part (92 ∷ 92 ∷ []) behind part (scalar 92 ∷ [])
  control : {part b : ℕ} {behind : List ℕ} → (b ≡ 9) ⊎ ((b ≡ 10) ⊎ (b ≡ 13)) → IsItem part (b ∷ []) behind part []
  utf8 : {part c : ℕ} {front behind : List ℕ} → IsUtf8Of c front → IsItem part front behind part (scalar c ∷ [])
  byte : {part b : ℕ} {behind : List ℕ} → 128 ≤ b → b < 256 → ¬ (BeginsUtf8 (b ∷ behind)) → IsItem part (b ∷ []) behind part (scalar b ∷ [])
  choice : {part chosen b : ℕ} {behind : List ℕ} → 1 ≤ chosen → chosen ≤ 9 → b ≡ 64 + chosen → IsItem part (92 ∷ 80 ∷ b ∷ 92 ∷ []) behind chosen []
  first_part : {part c : ℕ} {behind : List ℕ} → 32 ≤ c → c ≤ 126 → part ≡ 1 → IsItem part (92 ∷ 83 ∷ 92 ∷ c ∷ []) behind part (scalar (128 + c) ∷ [])
  other_part : {part c : ℕ} {behind : List ℕ} → 32 ≤ c → c ≤ 126 → part ≢ 1 → IsItem part (92 ∷ 83 ∷ 92 ∷ c ∷ []) behind part (page (64 + part) (128 + c) ∷ [])
  hex : {part v : ℕ} {digits behind : List ℕ} → IsHex 2 digits v → IsItem part (92 ∷ 88 ∷ 92 ∷ digits) behind part (scalar v ∷ [])
  hex2 : {part : ℕ} {text groups values behind : List ℕ} {items : List Item} → text ≡ 92 ∷ 88 ∷ 50 ∷ 92 ∷ (groups ++ 92 ∷ 88 ∷ 48 ∷ 92 ∷ []) → groups ≢ [] → IsGroups 4 groups values → IsUtf16 values items → IsItem part text behind part items
  hex4 : {part : ℕ} {text groups values behind : List ℕ} {items : List Item} → text ≡ 92 ∷ 88 ∷ 52 ∷ 92 ∷ (groups ++ 92 ∷ 88 ∷ 48 ∷ 92 ∷ []) → groups ≢ [] → IsGroups 8 groups values → IsUtf32 values items → IsItem part text behind part items

-- the items of a text under a part
pub data IsItems : ℕ → List ℕ → List Item → Type 0 where
  none : {part : ℕ} → IsItems part [] []
  more : {part next : ℕ} {text front rest : List ℕ} {items first others : List Item} → text ≡ front ++ rest → items ≡ first ++ others → IsItem part front rest next first → IsItems next rest others → IsItems part text items

-- the items of a string's body: part 1 stands at its start
abbrev pub ItemsOf : List ℕ → List Item → Type 0
ItemsOf body items = IsItems 1 body items

-- a text is the body of a string: it has items
abbrev pub IsBody : List ℕ → Type 0
IsBody body = ∥ ((items : List Item) × ItemsOf body items) ∥₁
