-- Strings as values that rules compare.
use Rattle.std.specs.Prelude.{◌≡◌, ◌||◌, ℕ, Bool, true, false, List, [], ◌∷◌, nat_eq}
use Rattle.std.specs.List.{starts_with}
use Rattle.p21_text.specs.Items.{Item, ItemsOf}
use Rattle.p21_json.specs.Characters.{text_of_items}
use Rattle.p21_rules.specs.Value.{Value, text, spelled}

-- the character U+FFFD in UTF-8
abbrev pub replacement : List ℕ
replacement = 0xEF ∷ 0xBF ∷ 0xBD ∷ []

-- it stands somewhere in the text
abbrev pub has_replacement : List ℕ → Bool
has_replacement [] = false
has_replacement (b ∷ bs) = starts_with nat_eq (b ∷ bs) replacement || has_replacement bs

-- A string is its characters. Where one of them is U+FFFD, as which also reads what is no character, it is what is written.
-- Its characters in UTF-8; if one of them is U+FFFD, as which also reads what is no character, the bytes between its
-- apostrophes.
pub data IsTextValue (body : List ℕ) : Value → Type 0 where
  characters : {is : List Item} → ItemsOf body is → has_replacement (text_of_items is) ≡ false → IsTextValue body (text (text_of_items is))
  written : {is : List Item} → ItemsOf body is → has_replacement (text_of_items is) ≡ true → IsTextValue body (spelled body)
