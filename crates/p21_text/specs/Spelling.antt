-- How each token is spelled.
use Rattle.std.specs.Prelude.{◌≡◌, ℕ, ◌+◌, ◌-◌, ◌*◌, ◌<◌, ◌≤◌, ◌^◌, ◌⊎◌, List, [], ◌∷◌, ◌++◌, length}
use Rattle.std.specs.List.{AllByRecursion}
use Rattle.p21_text.specs.Items.{IsBody, IsHexDigit}
use Rattle.p21_text.specs.declared.token.Token.{Token}
use Rattle.p21_text.specs.declared.token.Token.TheVariants as variants

-- a token without where its text lies in memory
pub data Symbol : Type 0 where
  iso : Symbol
  end_iso : Symbol
  keyword : List ℕ → Symbol
  user_keyword : List ℕ → Symbol
  int : List ℕ → Symbol
  real : List ℕ → Symbol
  str : List ℕ → Symbol
  name : ℕ → Symbol
  enumeration : List ℕ → Symbol
  binary : List ℕ → Symbol
  dollar : Symbol
  star : Symbol
  lparen : Symbol
  rparen : Symbol
  comma : Symbol
  equals : Symbol
  semi : Symbol
  end : Symbol
  bad : Symbol

-- the token of the code, without where its text lies in memory
abbrev pub symbol : Token → Symbol
symbol variants.Iso = iso
symbol variants.EndIso = end_iso
symbol (variants.Keyword s) = keyword s.now
symbol (variants.UserKeyword s) = user_keyword s.now
symbol (variants.Int s) = int s.now
symbol (variants.Real s) = real s.now
symbol (variants.Str s) = str s.now
symbol (variants.Name n) = name n
symbol (variants.Enumeration s) = enumeration s.now
symbol (variants.Binary s) = binary s.now
symbol variants.Dollar = dollar
symbol variants.Star = star
symbol variants.LParen = lparen
symbol variants.RParen = rparen
symbol variants.Comma = comma
symbol variants.Equals = equals
symbol variants.Semi = semi
symbol variants.End = end
symbol variants.Bad = bad

-- A to Z and the underscore
abbrev pub IsUpper : ℕ → Type 0
IsUpper b = ((65 ≤ b) × (b ≤ 90)) ⊎ (b ≡ 95)

-- 0 to 9
abbrev pub IsDigit : ℕ → Type 0
IsDigit b = (48 ≤ b) × (b ≤ 57)

-- an Upper, and Uppers and Digits after it
abbrev pub IsName : List ℕ → Type 0
IsName [] = ⊥
IsName (b ∷ rest) = IsUpper b × AllByRecursion (λ c. IsUpper c ⊎ IsDigit c) rest

-- one Digit or more
abbrev pub IsDigits : List ℕ → Type 0
IsDigits [] = ⊥
IsDigits (b ∷ rest) = IsDigit b × AllByRecursion IsDigit rest

-- `+`, `-` or nothing
abbrev pub IsSign : List ℕ → Type 0
IsSign text = (text ≡ []) ⊎ ((text ≡ 43 ∷ []) ⊎ (text ≡ 45 ∷ []))

-- an optional sign and Digits
pub record IsInt (text : List ℕ) : Type 0 where
  pub sign : List ℕ
  pub digits : List ℕ
  pub spelled : text ≡ sign ++ digits
  pub is_sign : IsSign sign
  pub are_digits : IsDigits digits

-- nothing, or `E` and an integer
abbrev pub IsExponent : List ℕ → Type 0
IsExponent [] = Unit {0}
IsExponent (b ∷ rest) = (b ≡ 69) × IsInt rest

-- an integer, a point, any number of Digits, and perhaps an exponent
pub record IsReal (text : List ℕ) : Type 0 where
  pub whole : List ℕ
  pub fraction : List ℕ
  pub exponent : List ℕ
  pub spelled : text ≡ whole ++ 46 ∷ (fraction ++ exponent)
  pub is_whole : IsInt whole
  pub is_fraction : AllByRecursion IsDigit fraction
  pub is_exponent : IsExponent exponent

-- the value of digits to the base 10, after those of the value `high`
abbrev pub decimal_from : ℕ → List ℕ → ℕ
decimal_from high [] = high
decimal_from high (b ∷ rest) = decimal_from (10 * high + (b - 48)) rest

-- one of 0 to 3 and digits to the base 16; with no further digits the first is 0
abbrev pub IsBinary : List ℕ → Type 0
IsBinary [] = ⊥
IsBinary (b ∷ []) = b ≡ 48
IsBinary (b ∷ c ∷ rest) = (48 ≤ b) × (b ≤ 51) × AllByRecursion (λ h. (v : ℕ) × IsHexDigit h v) (c ∷ rest)

-- a text that is the digits of a binary
abbrev pub IsBinaryBody : List ℕ → Type 0
IsBinaryBody digits = ∥ IsBinary digits ∥₁

-- the bits of a binary: four for each further digit, less the first digit
abbrev pub bits_of : List ℕ → ℕ
bits_of [] = 0
bits_of (b ∷ rest) = 4 * length rest - (b - 48)

-- the byte after is none of these
abbrev pub NotBefore : (ℕ → Type 0) → List ℕ → Type 0
NotBefore P [] = Unit {0}
NotBefore P (b ∷ rest) = ¬ (P b)

-- A text spells a token, where the text `behind` follows it.
-- One line for each row of the token table of docs/FORMAT.md.
abbrev pub Spells : List ℕ → List ℕ → Symbol → Type 0
Spells text behind iso = text ≡ 73 ∷ 83 ∷ 79 ∷ 45 ∷ 49 ∷ 48 ∷ 51 ∷ 48 ∷ 51 ∷ 45 ∷ 50 ∷ 49 ∷ []
Spells text behind end_iso = text ≡ 69 ∷ 78 ∷ 68 ∷ 45 ∷ 73 ∷ 83 ∷ 79 ∷ 45 ∷ 49 ∷ 48 ∷ 51 ∷ 48 ∷ 51 ∷ 45 ∷ 50 ∷ 49 ∷ []
Spells text behind (keyword s) = (text ≡ s) × IsName s
Spells text behind (user_keyword s) = (text ≡ s) × (n : List ℕ) × (s ≡ 33 ∷ n) × IsName n
Spells text behind (int s) = (text ≡ s) × IsInt s
Spells text behind (real s) = (text ≡ s) × IsReal s
Spells text behind (str body) = (text ≡ 39 ∷ (body ++ 39 ∷ [])) × IsBody body × NotBefore (λ b. b ≡ 39) behind
Spells text behind (name n) = (digits : List ℕ) × (text ≡ 35 ∷ digits) × IsDigits digits × (n ≡ decimal_from 0 digits) × (n < 2 ^ 64) × NotBefore IsDigit behind
Spells text behind (enumeration n) = (text ≡ 46 ∷ (n ++ 46 ∷ [])) × IsName n
Spells text behind (binary s) = (text ≡ 34 ∷ (s ++ 34 ∷ [])) × IsBinary s
Spells text behind dollar = text ≡ 36 ∷ []
Spells text behind star = text ≡ 42 ∷ []
Spells text behind lparen = text ≡ 40 ∷ []
Spells text behind rparen = text ≡ 41 ∷ []
Spells text behind comma = text ≡ 44 ∷ []
Spells text behind equals = text ≡ 61 ∷ []
Spells text behind semi = text ≡ 59 ∷ []
Spells text behind end = ⊥
Spells text behind bad = ⊥
