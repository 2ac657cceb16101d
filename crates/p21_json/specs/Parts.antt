-- The JSON of parameters and instances, part by part.
use Rattle.std.specs.Prelude.{◌≡◌, ℕ, ◌^◌, ◌-◌, true, false, List, [], ◌∷◌, ◌++◌, min, drop, slice_index, decimal, codes, ◌==◌, if◌then◌else◌}
use Rattle.std.specs.List.{AllZip}
use Rattle.json.specs.Token.{Token}
use Rattle.json.specs.Token as json
use Rattle.json.specs.Print.{IsNumber}
use Rattle.p21_text.specs.Items.{Item, ItemsOf}
use Rattle.p21_text.specs.Spelling.{bits_of}
use Rattle.p21_tree.specs.Tree.{Tree, Trees, nil, cons, absent, derived, int, real, str, enumeration, binary, reference, items, typed}
use Rattle.p21_express.specs.Schema.{Schema}
use Rattle.p21_json.specs.Spelled.{IsSpelled, text_of}
use Rattle.p21_json.specs.Numerals.{numeral_of}
use Rattle.p21_json.specs.Characters.{text_of_items}
use Rattle.p21_json.specs.Where.{Where, IsLogicalAt}
use Rattle.p21_json.specs.Where as place

-- What becomes one token of JSON: the token itself; a number as the file spells it; the string of a body; the string or the key of a declared name; the item of an enumeration, and where it stands.
pub data Part : Type 0 where
  exactly : Token → Part
  number : List ℕ → Part
  string : List ℕ → Part
  name : List ℕ → Part
  key : List ℕ → Part
  item : Where → List ℕ → Part

-- the first where the fact holds, and else the second
pub record IsEither (P : Type 0) (u first second : Token) : Type 0 where
  pub first_if : P → u ≡ first
  pub else_second : ¬ P → u ≡ second

-- `.T.`, `.F.` and `.U.` of BOOLEAN and LOGICAL, by the letter
abbrev pub logical_token : List ℕ → Token
logical_token v = if slice_index v 0 == 84 then json.boolean true else (if slice_index v 0 == 70 then json.boolean false else json.string (codes "UNKNOWN"))

-- The token of a part. A text that is no number, which no integer and no real is, would be a string.
-- The token itself; the number; the string of the items of the body; a spelling of the name; `true`, `false` or
-- `"UNKNOWN"` of BOOLEAN and LOGICAL, and otherwise the item as a string.
abbrev pub IsTokenOf : Schema → Part → Token → Type 0
IsTokenOf s (exactly t) u = u ≡ t
IsTokenOf s (number v) u = IsEither (IsNumber (text_of (numeral_of v))) u (json.number (text_of (numeral_of v))) (json.string (text_of (numeral_of v)))
IsTokenOf s (string body) u = (found : List Item) × ItemsOf body found × (u ≡ json.string (text_of_items found))
IsTokenOf s (name n) u = (text : List ℕ) × IsSpelled text n × (u ≡ json.string text)
IsTokenOf s (key n) u = (text : List ℕ) × IsSpelled text n × (u ≡ json.key text)
IsTokenOf s (item w v) u = IsEither (IsLogicalAt s w) u (logical_token v) (json.string (text_of v))

abbrev pub AreTokensOf : Schema → List Part → List Token → Type 0
AreTokensOf s parts tokens = AllZip (IsTokenOf s) parts tokens

-- a key of the format
abbrev pub label : List ℕ → Part
label word = exactly (json.key word)

abbrev pub decimal_part : ℕ → Part
decimal_part n = exactly (json.number (decimal n))

-- `{"ref":13}`
abbrev pub reference_parts : ℕ → List Part
reference_parts n = exactly json.begin_object ∷ label (codes "ref") ∷ decimal_part n ∷ exactly json.end_object ∷ []

-- `{"bits":12,"hex":"0AB"}`: the digits after the first, which says how many bits of the next one do not count. More bits than 2 ^ 64 - 1 are said to be so many.
abbrev pub binary_parts : List ℕ → List Part
binary_parts v = exactly json.begin_object ∷ label (codes "bits") ∷ decimal_part (min (bits_of v) (2 ^ 64 - 1)) ∷ label (codes "hex") ∷ exactly (json.string (text_of (drop 1 v))) ∷ exactly json.end_object ∷ []

-- `[..]`
abbrev pub list_parts : List Part → List Part
list_parts elements = exactly json.begin_array ∷ (elements ++ exactly json.end_array ∷ [])

-- `{"type":"IfcLabel","value":..}`
abbrev pub typed_parts : List ℕ → List Part → List Part
typed_parts k value = exactly json.begin_object ∷ label (codes "type") ∷ name k ∷ label (codes "value") ∷ (value ++ exactly json.end_object ∷ [])

abbrev mutual
  -- The value of a parameter: one line for each row of the table of values.
  pub value_parts : Where → Tree → List Part
  value_parts w absent = exactly json.null ∷ []
  value_parts w derived = exactly json.null ∷ []
  value_parts w (int v) = number v ∷ []
  value_parts w (real v) = number v ∷ []
  value_parts w (str body) = string body ∷ []
  value_parts w (enumeration v) = item w v ∷ []
  value_parts w (binary v) = binary_parts v
  value_parts w (reference n) = reference_parts n
  value_parts w (items ts) = list_parts (values_parts w ts)
  value_parts w (typed k t) = typed_parts k (value_parts (place.typed k) t)

  -- the values of parameters, in order
  pub values_parts : Where → Trees → List Part
  values_parts w nil = []
  values_parts w (cons t ts) = value_parts w t ++ values_parts w ts
