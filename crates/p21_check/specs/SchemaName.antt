-- Whether items write the name of a schema, as the code finds it.
use Rattle.std.specs.Prelude.{ℕ, Bool, true, false, ◌&&◌, ◌||◌, not, ◌==◌, List, [], ◌∷◌}
use Rattle.std.specs.Char.{to_ascii_uppercase}
use Rattle.p21_text.specs.Items.{Item, scalar, page}

-- a space or an opening brace
abbrev pub ends_name : Item → Bool
ends_name (scalar c) = c == 32 || c == 123
ends_name (page letter n) = false

-- a character of a name, which in upper case is the one of this number
abbrev pub stands_for : Item → ℕ → Bool
stands_for (scalar c) b = not (c == 32) && not (c == 123) && to_ascii_uppercase c == b
stands_for (page letter n) b = false

-- the items before the first that ends a name are, in upper case, these characters
abbrev pub spelled : List Item → List ℕ → Bool
spelled [] [] = true
spelled (x ∷ xs) [] = ends_name x
spelled [] (b ∷ bs) = false
spelled (x ∷ xs) (b ∷ bs) = stands_for x b && spelled xs bs
