-- Reading the words of a text in upper case: what stands first, and the text after it, or nothing.
use Rattle.std.specs.Prelude.{ℕ, zero, suc, Bool, true, false, List, [], ◌∷◌, Option, Some, None, ◌==◌, ◌||◌, ◌&&◌, not, nat_le, if◌then◌else◌, take, drop, option_map}
use Rattle.std.specs.List.{prefix_len}
use Rattle.p21_express.specs.Word.{Word, name, integer, string, symbol}
use Rattle.p21_express.specs.Words.{UpperWords, number_of}
use Rattle.p21_express.specs.Reader.{word_of}
use Rattle.p21_express.specs.declared.word.Word as source
use Rattle.std.specs.Borrow.{Bor}

abbrev pub white : ℕ → Bool
white b = (nat_le 9 b && nat_le b 13) || (b == 32)

abbrev pub letter : ℕ → Bool
letter b = nat_le 65 b && nat_le b 90

abbrev pub digit : ℕ → Bool
digit b = nat_le 48 b && nat_le b 57

abbrev pub part : ℕ → Bool
part b = (letter b || digit b) || (b == 95)

abbrev pub not_line_end : ℕ → Bool
not_line_end b = not (b == 10)

abbrev pub not_quote : ℕ → Bool
not_quote b = not (b == 34)

-- past a byte that is an apostrophe, where the next is one
abbrev pub string_by : Bool → Bool → List ℕ → Option (List ℕ) → Option (List ℕ) → Option (List ℕ)
string_by true true rest doubled plain = doubled
string_by true false rest doubled plain = Some rest
string_by false second rest doubled plain = plain

-- after the apostrophe that closes a string
unfoldable pub string_end : List ℕ → Option (List ℕ)
string_end [] = None
string_end (b ∷ []) = if b == 39 then Some [] else None
string_end (b ∷ c ∷ rest) = string_by (b == 39) (c == 39) (c ∷ rest) (string_end rest) (string_end (c ∷ rest))

-- `(*`
abbrev pub opens_remark : ℕ → ℕ → Bool
opens_remark b c = (b == 40) && (c == 42)

-- `*)`
abbrev pub closes_remark : ℕ → ℕ → Bool
closes_remark b c = (b == 42) && (c == 41)

abbrev pub remark_by : Bool → Bool → ℕ → List ℕ → (ℕ → Option (List ℕ)) → Option (List ℕ) → Option (List ℕ)
remark_by true closing depth rest again plain = again (suc depth)
remark_by false true zero rest again plain = Some rest
remark_by false true (suc depth) rest again plain = again depth
remark_by false false depth rest again plain = plain

-- after the `*)` that closes a remark, within which so many others are open
unfoldable pub remark_end : ℕ → List ℕ → Option (List ℕ)
remark_end depth [] = None
remark_end depth (b ∷ []) = None
remark_end depth (b ∷ c ∷ rest) = remark_by (opens_remark b c) (closes_remark b c) depth rest (λ k. remark_end k rest) (remark_end depth (c ∷ rest))

-- what stands first, and the text after it
abbrev pub with_word : Word → Option (List ℕ) → Option (Option Word × List ℕ)
with_word w None = None
with_word w (Some rest) = Some (Some w, rest)

abbrev pub with_none : Option (List ℕ) → Option (Option Word × List ℕ)
with_none None = None
with_none (Some rest) = Some (None, rest)

-- after the first byte
abbrev pub behind_first : List ℕ → Option (List ℕ)
behind_first [] = None
behind_first (b ∷ rest) = Some rest

-- after the quote that closes a string
abbrev pub quoted_end : List ℕ → Option (List ℕ)
quoted_end text = behind_first (drop (prefix_len not_quote text) text)

-- the text begins with this byte
abbrev pub begins : ℕ → List ℕ → Bool
begins b [] = false
begins b (c ∷ rest) = c == b

-- a name
abbrev pub name_front : List ℕ → Option (Option Word × List ℕ)
name_front text = Some (Some (name (take (prefix_len part text) text)), drop (prefix_len part text) text)

-- an integer
abbrev pub integer_front : List ℕ → Option (Option Word × List ℕ)
integer_front text = Some (Some (integer (number_of (take (prefix_len digit text) text))), drop (prefix_len digit text) text)

-- a line remark, after its first byte
abbrev pub line_front : List ℕ → Option (Option Word × List ℕ)
line_front text = Some (None, drop (prefix_len not_line_end text) text)

-- any other byte
abbrev pub other_front : ℕ → List ℕ → Option (Option Word × List ℕ)
other_front b text = if nat_le 33 b && nat_le b 126 then Some (Some (symbol b), text) else None

-- what stands at the front after the first byte b
unfoldable pub front_of : ℕ → List ℕ → Option (Option Word × List ℕ)
front_of b text =
    if white b then Some (None, text)
    else (if letter b then name_front (b ∷ text)
    else (if digit b then integer_front (b ∷ text)
    else (if b == 39 then with_word string (string_end text)
    else (if b == 34 then with_word string (quoted_end text)
    else (if (b == 45) && begins 45 text then line_front text
    else (if (b == 40) && begins 42 text then with_none (remark_end 0 (drop 1 text))
    else other_front b text))))))

-- what stands at the front of a text
abbrev pub front_at : List ℕ → Option (Option Word × List ℕ)
front_at [] = None
front_at (b ∷ text) = front_of b text

abbrev pub plain_front : Option source.Word × Bor (List ℕ) → Option Word × List ℕ
plain_front x = (option_map word_of x.0, x.1.now)

-- no words are those of the text
abbrev pub HasNoWords : List ℕ → Type 0
HasNoWords text = (ws : List Word) → UpperWords text ws → ⊥
