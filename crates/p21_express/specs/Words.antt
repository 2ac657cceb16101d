-- The words of a schema's text. The case of letters says nothing: the words are those of the text in upper case.
use Rattle.std.specs.Prelude.{◌≡◌, ◌≢◌, ℕ, suc, ◌≤◌, ◌⊎◌, List, [], ◌∷◌, ◌++◌, ◌+◌, ◌-◌, ◌*◌, map, length, Option, Some, None, nat_le, if◌then◌else◌}
use Rattle.std.specs.List.{AllByRecursion}
use Rattle.std.specs.Char.{to_ascii_uppercase}
use Rattle.p21_express.specs.Word.{Word}
use Rattle.p21_express.specs.Word as w

-- tab, line feed, vertical tab, form feed, carriage return, space
abbrev pub IsWhite : ℕ → Type 0
IsWhite b = ((9 ≤ b) × (b ≤ 13)) ⊎ (b ≡ 32)

abbrev pub IsLetter : ℕ → Type 0
IsLetter b = (65 ≤ b) × (b ≤ 90)

abbrev pub IsDigit : ℕ → Type 0
IsDigit b = (48 ≤ b) × (b ≤ 57)

-- a letter, a digit or `_`
abbrev pub IsNamePart : ℕ → Type 0
IsNamePart b = IsLetter b ⊎ (IsDigit b ⊎ (b ≡ 95))

-- the value of digits to the base 10, after those of the value `high`
abbrev pub decimal_from : ℕ → List ℕ → ℕ
decimal_from high [] = high
decimal_from high (b ∷ rest) = decimal_from (10 * high + (b - 48)) rest

-- the value of digits, of which there are at most 18 as they are written
abbrev pub number_of : List ℕ → Option ℕ
number_of digits = if nat_le (length digits) 18 then Some (decimal_from 0 digits) else None

-- the text does not go on with such a byte
abbrev pub GoesOnWithout : (ℕ → Type 0) → List ℕ → Type 0
GoesOnWithout P [] = Unit {0}
GoesOnWithout P (b ∷ rest) = ¬ (P b)

-- the text is at its end, or at the end of a line
abbrev pub IsAtLineEnd : List ℕ → Type 0
IsAtLineEnd [] = Unit {0}
IsAtLineEnd (b ∷ rest) = b ≡ 10

-- the text goes on with these two bytes
abbrev pub GoesOnWithPair : ℕ → ℕ → List ℕ → Type 0
GoesOnWithPair b c text = (rest : List ℕ) × (text ≡ b ∷ c ∷ rest)

-- So many remarks are open at the front of a text, and `rest` stands after the `*)` that closes the outermost:
-- each `(*` opens one more.
pub data Closes : ℕ → List ℕ → List ℕ → Type 0 where
  closed : {rest : List ℕ} → Closes 0 rest rest
  opens : {depth : ℕ} {text rest : List ℕ} → Closes (suc (suc depth)) text rest → Closes (suc depth) (40 ∷ 42 ∷ text) rest
  closes : {depth : ℕ} {text rest : List ℕ} → Closes depth text rest → Closes (suc depth) (42 ∷ 41 ∷ text) rest
  passes : {depth b : ℕ} {text rest : List ℕ} → ¬ (GoesOnWithPair 40 42 (b ∷ text)) → ¬ (GoesOnWithPair 42 41 (b ∷ text)) → Closes (suc depth) text rest → Closes (suc depth) (b ∷ text) rest

-- A text after the apostrophe that opens a string, and what stands after the one that closes it: a doubled
-- apostrophe closes nothing.
pub data EndsString : List ℕ → List ℕ → Type 0 where
  closes : {rest : List ℕ} → GoesOnWithout (λ b. b ≡ 39) rest → EndsString (39 ∷ rest) rest
  doubled : {text rest : List ℕ} → EndsString text rest → EndsString (39 ∷ 39 ∷ text) rest
  passes : {b : ℕ} {text rest : List ℕ} → b ≢ 39 → EndsString text rest → EndsString (b ∷ text) rest

-- a byte that stands by itself, where `rest` is after it: no letter, digit or quote, and it opens no remark
pub record IsSymbol (b : ℕ) (rest : List ℕ) : Type 0 where
  pub low : 33 ≤ b
  pub high : b ≤ 126
  pub no_letter : ¬ (IsLetter b)
  pub no_digit : ¬ (IsDigit b)
  pub no_apostrophe : b ≢ 39
  pub no_quote : b ≢ 34
  pub no_line_remark : ¬ (GoesOnWithPair 45 45 (b ∷ rest))
  pub no_remark : ¬ (GoesOnWithPair 40 42 (b ∷ rest))

-- What stands at the front of a text, and the text after it: a white byte or a remark, which is no word, or a word.
pub data Front : List ℕ → Option Word → List ℕ → Type 0 where
  white : {b : ℕ} {rest : List ℕ} → IsWhite b → Front (b ∷ rest) None rest
  line_remark : {text rest : List ℕ} (body : List ℕ) → text ≡ body ++ rest → AllByRecursion (λ b. b ≢ 10) body → IsAtLineEnd rest → Front (45 ∷ 45 ∷ text) None rest
  remark : {text rest : List ℕ} → Closes 1 text rest → Front (40 ∷ 42 ∷ text) None rest
  name : {b : ℕ} {text parts rest : List ℕ} → IsLetter b → text ≡ parts ++ rest → AllByRecursion IsNamePart parts → GoesOnWithout IsNamePart rest → Front (b ∷ text) (Some (w.name (b ∷ parts))) rest
  integer : {b : ℕ} {text rest : List ℕ} (digits : List ℕ) → IsDigit b → text ≡ digits ++ rest → AllByRecursion IsDigit digits → GoesOnWithout IsDigit rest → Front (b ∷ text) (Some (w.integer (number_of (b ∷ digits)))) rest
  string : {text rest : List ℕ} → EndsString text rest → Front (39 ∷ text) (Some w.string) rest
  quoted : {text rest : List ℕ} (body : List ℕ) → text ≡ body ++ 34 ∷ rest → AllByRecursion (λ b. b ≢ 34) body → Front (34 ∷ text) (Some w.string) rest
  symbol : {b : ℕ} {rest : List ℕ} → IsSymbol b rest → Front (b ∷ rest) (Some (w.symbol b)) rest

-- the words of a text in upper case
pub data UpperWords : List ℕ → List Word → Type 0 where
  none : UpperWords [] []
  pass : {text rest : List ℕ} {words : List Word} → Front text None rest → UpperWords rest words → UpperWords text words
  word : {text rest : List ℕ} {first : Word} {words : List Word} → Front text (Some first) rest → UpperWords rest words → UpperWords text (first ∷ words)

-- the words of a text; a text with a byte that begins no word, or an open remark or string, has none
abbrev pub AreWords : List ℕ → List Word → Type 0
AreWords text words = UpperWords (map to_ascii_uppercase text) words
