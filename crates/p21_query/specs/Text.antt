-- The text of a parameter.
use Rattle.std.specs.Prelude.{◌≡◌, ℕ, List, []}
use Rattle.p21_text.specs.Items.{Item, ItemsOf}
use Rattle.p21_tree.specs.Tree.{Tree, absent, derived, int, real, str, enumeration, binary, reference, items, typed}
use Rattle.p21_json.specs.Characters.{text_of_items}
use Rattle.p21_json.specs.Spelled.{IsSpelled, text_of}

-- of a string the text of its items; of a typed parameter the name of its type but for the case of letters; of what else is spelled as it is
abbrev pub IsTextOf : Tree → List ℕ → Type 0
IsTextOf absent text = text ≡ []
IsTextOf derived text = text ≡ []
IsTextOf (int s) text = text ≡ text_of s
IsTextOf (real s) text = text ≡ text_of s
IsTextOf (str s) text = (found : List Item) × (ItemsOf s found × (text ≡ text_of_items found))
IsTextOf (enumeration s) text = text ≡ text_of s
IsTextOf (binary s) text = text ≡ text_of s
IsTextOf (reference n) text = text ≡ []
IsTextOf (items ts) text = text ≡ []
IsTextOf (typed k t) text = IsSpelled text k
