-- What a token carries.
use Rattle.std.specs.Prelude.{◌≡◌, ℕ, ◌<◌, ◌^◌, List, ◌∷◌}
use Rattle.p21_text.specs.Items.{IsBody}
use Rattle.p21_text.specs.Spelling.{Symbol, IsName, IsInt, IsReal, IsBinary}
use Rattle.p21_text.specs.Spelling as token

-- the text that a token carries is one of its kind: a keyword's is a name, a string's is a body with its items
-- A binary carries its digits, and an instance name is below 2^64.
abbrev pub IsContent : Symbol → Type 0
IsContent (token.keyword s) = IsName s
IsContent (token.user_keyword s) = (n : List ℕ) × (s ≡ 33 ∷ n) × IsName n
IsContent (token.int s) = IsInt s
IsContent (token.real s) = IsReal s
IsContent (token.str body) = IsBody body
IsContent (token.name n) = n < 2 ^ 64
IsContent (token.enumeration n) = IsName n
IsContent (token.binary s) = IsBinary s
IsContent other = Unit {0}
