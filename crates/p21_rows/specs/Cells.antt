-- The cells that values are held in.
use Rattle.std.specs.Prelude.{◌≡◌, ℕ, pos, List, slice_index, MatchOption, codes, FitsSigned}
use Rattle.std.specs.Float.{binary64}
use Rattle.std.specs.Int.{cast_signed, w64}
use Rattle.std.specs.Str.Parse.{IsNumeral, without_leading_sign, signed_digits_value}
use Rattle.fast_float.specs.Parse.{parse_float}
use Rattle.p21_text.specs.Items.{Item, ItemsOf}
use Rattle.p21_tree.specs.Tree.{Tree, absent, derived, int, real, str, enumeration, binary, reference, items, typed}
use Rattle.p21_express.specs.Schema.{Schema}
use Rattle.p21_json.specs.Characters.{text_of_items}
use Rattle.p21_json.specs.Parts.{value_parts}
use Rattle.p21_json.specs.Values.{IsTextOf}
use Rattle.p21_json.specs.Where.{Where, IsLogicalAt}
use Rattle.p21_rows.specs.declared.cell.Cell.{Cell}
use Rattle.p21_rows.specs.declared.cell.Cell.TheVariants.{Null, Integer, Real, Text}

-- a number of 64 bits, as the signed one of the same bits
abbrev pub number_cell : ℕ → Cell
number_cell n = Integer (cast_signed w64 n)

-- a text that is such
abbrev pub IsText : (List ℕ → Type 0) → Cell → Type 0
IsText P Null = ⊥
IsText P (Integer n) = ⊥
IsText P (Real x) = ⊥
IsText P (Text v) = P v.items

-- the nearest real of 64 bits
abbrev pub IsRealCell : List ℕ → Cell → Type 0
IsRealCell v c = MatchOption (parse_float binary64 v) (IsText (λ text. text ≡ v) c) (λ x. c ≡ Real x)

-- an integer of 64 bits
abbrev pub IsWithin : List ℕ → Type 0
IsWithin v = IsNumeral 10 (without_leading_sign v) × FitsSigned w64 (signed_digits_value 10 v)

-- an integer; where it is none of 64 bits the nearest real
pub record IsIntegerCell (v : List ℕ) (c : Cell) : Type 0 where
  pub within : IsWithin v → c ≡ Integer (signed_digits_value 10 v)
  pub beyond : ¬ (IsWithin v) → IsRealCell v c

-- a value of BOOLEAN or LOGICAL, by its letter
pub record IsLogicalCell (v : List ℕ) (c : Cell) : Type 0 where
  pub yes : slice_index v 0 ≡ 84 → c ≡ Integer (pos 1)
  pub no : slice_index v 0 ≡ 70 → c ≡ Integer (pos 0)
  pub other : ¬ (slice_index v 0 ≡ 84) → ¬ (slice_index v 0 ≡ 70) → IsText (λ text. text ≡ codes "UNKNOWN") c

-- the item of an enumeration, or a value of BOOLEAN or LOGICAL where such stands
pub record IsItemCell (s : Schema) (w : Where) (v : List ℕ) (c : Cell) : Type 0 where
  pub logical : IsLogicalAt s w → IsLogicalCell v c
  pub item : ¬ (IsLogicalAt s w) → IsText (λ text. text ≡ v) c

-- The cell of a value there: null of `$` and `*`, a number, the characters of a string, an item, the number of an instance name, and else JSON.
-- An integer, or the nearest real where it does not fit 64 bits; 1, 0 or UNKNOWN of BOOLEAN and LOGICAL; the JSON of
-- a binary, a typed value or a list.
abbrev pub IsCell : Schema → Where → Tree → Cell → Type 0
IsCell s w absent c = c ≡ Null
IsCell s w derived c = c ≡ Null
IsCell s w (int v) c = IsIntegerCell v c
IsCell s w (real v) c = IsRealCell v c
IsCell s w (str v) c = IsText (λ text. (found : List Item) × ItemsOf v found × (text ≡ text_of_items found)) c
IsCell s w (enumeration v) c = IsItemCell s w v c
IsCell s w (reference n) c = c ≡ number_cell n
IsCell s w (binary v) c = IsText (IsTextOf s (value_parts w (binary v))) c
IsCell s w (items ts) c = IsText (IsTextOf s (value_parts w (items ts))) c
IsCell s w (typed k t) c = IsText (IsTextOf s (value_parts w (typed k t))) c
