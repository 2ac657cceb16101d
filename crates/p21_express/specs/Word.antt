-- The words that a schema's text is made of, and tests on them.
use Rattle.std.specs.Prelude.{ℕ, Bool, false, List, [], ◌∷◌, Option, ◌==◌, ◌||◌}
use Rattle.std.specs.Str.{bytes_eq}

-- a name or a word of the grammar, in upper case; an integer, with its value where it has at most 18 digits; a string; a
-- byte that stands by itself
pub data Word : Type 0 where
  name : List ℕ → Word
  integer : Option ℕ → Word
  string : Word
  symbol : ℕ → Word

-- the word is this name
abbrev pub is_name : List ℕ → Word → Bool
is_name n (name m) = bytes_eq m n
is_name n (integer v) = false
is_name n string = false
is_name n (symbol b) = false

abbrev pub is_symbol : ℕ → Word → Bool
is_symbol c (name n) = false
is_symbol c (integer v) = false
is_symbol c string = false
is_symbol c (symbol b) = b == c

-- `(` and `[`
abbrev pub is_opening : Word → Bool
is_opening w = is_symbol 40 w || is_symbol 91 w

-- `)` and `]`
abbrev pub is_closing : Word → Bool
is_closing w = is_symbol 41 w || is_symbol 93 w

-- the words go on with this name
abbrev pub begins_name : List ℕ → List Word → Bool
begins_name n [] = false
begins_name n (w ∷ ws) = is_name n w

-- the words go on with this symbol
abbrev pub begins_symbol : ℕ → List Word → Bool
begins_symbol c [] = false
begins_symbol c (w ∷ ws) = is_symbol c w
