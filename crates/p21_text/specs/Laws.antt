-- What holds of every text.
use Rattle.std.specs.Prelude.{◌≡◌, ℕ, ◌≤◌, List, length, take, drop}
use Rattle.p21_text.specs.Contents.{IsContent}
use Rattle.p21_text.specs.Items.{Item, ItemsOf}
use Rattle.p21_text.specs.Spelling.{Symbol, Spells, str}
use Rattle.p21_text.specs.Tokens.{Placed, First, Tokens}

-- one token, and no other, is the first from a place on
abbrev pub HasOneFirst : List ℕ → ℕ → Type 0
HasOneFirst text at = (t : Placed) × First text at t × ((u : Placed) → First text at u → u ≡ t)

-- no two tokens are the first from a place on
abbrev pub HasOneFirstAtMost : List ℕ → ℕ → Type 0
HasOneFirstAtMost text at = (t u : Placed) → First text at t → First text at u → t ≡ u

-- the text that the first token from a place on carries is of the token's kind
abbrev pub HasContent : List ℕ → ℕ → Type 0
HasContent text at = (t : Placed) → First text at t → IsContent t.token

-- one list, and no other, is the tokens from a place on
abbrev pub HasOneList : List ℕ → ℕ → Type 0
HasOneList text at = (ts : List Placed) × Tokens text at ts × ((us : List Placed) → Tokens text at us → us ≡ ts)

-- no two lists are the tokens from a place on
abbrev pub HasOneListAtMost : List ℕ → ℕ → Type 0
HasOneListAtMost text at = (ts us : List Placed) → Tokens text at ts → Tokens text at us → ts ≡ us

-- where a text begins with a string token, it begins with that token alone, and with no longer or shorter one
abbrev pub HasOneString : List ℕ → Type 0
HasOneString text = (n m : ℕ) (t : Symbol) (body : List ℕ) → n ≤ length text → m ≤ length text → Spells (take n text) (drop n text) t → Spells (take m text) (drop m text) (str body) → (n ≡ m) × (t ≡ str body)

-- no two lists are the items of a body
abbrev pub HasOneItemListAtMost : List ℕ → Type 0
HasOneItemListAtMost raw = (a b : List Item) → ItemsOf raw a → ItemsOf raw b → a ≡ b
