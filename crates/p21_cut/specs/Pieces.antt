-- The parts of a data section that can be read one by one: pieces, and after them the tail.
use Rattle.std.specs.Prelude.{◌≡◌, ◌≢◌, ℕ, ◌+◌, ◌≤◌, List, [], ◌∷◌, length, take, drop}
use Rattle.p21_text.specs.Separators.{IsComment}
use Rattle.p21_text.specs.Spelling.{Spells, str}
use Rattle.p21_text.specs.Tokens.{Passes}

-- the text begins with this byte
abbrev pub BeginsWithByte : ℕ → List ℕ → Type 0
BeginsWithByte b [] = ⊥
BeginsWithByte b (c ∷ rest) = c ≡ b

-- a byte that is no `;`, no `'` and, before the text after it, begins no `/*`
pub record IsPlain (b : ℕ) (behind : List ℕ) : Type 0 where
  pub no_semicolon : b ≢ 59
  pub no_apostrophe : b ≢ 39
  pub opens_nothing : b ≡ 47 → ¬ (BeginsWithByte 42 behind)

-- A part of a piece, as the first n bytes of a text: a string token, a comment, or one plain byte.
pub data PartIs : List ℕ → ℕ → Type 0 where
  string : {text body : List ℕ} {n : ℕ} → n ≤ length text → Spells (take n text) (drop n text) (str body) → PartIs text n
  comment : {text : List ℕ} {n : ℕ} → n ≤ length text → IsComment (take n text) → PartIs text n
  byte : {b : ℕ} {behind : List ℕ} → IsPlain b behind → PartIs (b ∷ behind) 1

-- parts one after the other, as the first n bytes of a text
pub data PartsAre : List ℕ → ℕ → Type 0 where
  none : {text : List ℕ} → PartsAre text 0
  more : {text : List ℕ} {n m k : ℕ} → PartIs text n → PartsAre (drop n text) m → k ≡ n + m → PartsAre text k

-- no part begins the text
abbrev pub HasNoPart : List ℕ → Type 0
HasNoPart text = (n : ℕ) → ¬ (PartIs text n)

-- The piece that a text begins with is its first n bytes: `#`, parts and `;`. Where the parts go on neither to a `;`
-- nor to another part, it is all of the text.
pub data PieceIs : List ℕ → ℕ → Type 0 where
  closed : {rest : List ℕ} {n : ℕ} → PartsAre rest n → BeginsWithByte 59 (drop n rest) → PieceIs (35 ∷ rest) (n + 2)
  open_ : {rest : List ℕ} {n : ℕ} → PartsAre rest n → ¬ (BeginsWithByte 59 (drop n rest)) → HasNoPart (drop n rest) → PieceIs (35 ∷ rest) (length rest + 1)

-- a piece: its number, the place of its first byte, and its bytes
pub record Piece : Type 0 where
  pub number : ℕ
  pub at : ℕ
  pub bytes : List ℕ

-- The next piece of a file from a place on, with its number, and the place after it.
pub data IsNext (file : List ℕ) : ℕ → ℕ → Piece → ℕ → Type 0 where
  made : {at number gap len : ℕ} → Passes (drop at file) gap → PieceIs (drop (at + gap) file) len
      → IsNext file at number (record { number = number; at = at + gap; bytes = take len (drop (at + gap) file) }) (at + gap + len)

-- The pieces of a file from a place on, numbered from `number` on, and the place of the tail: separators and pieces
-- stand in turn, and the tail begins where, after separators, no `#` stands.
pub data PiecesAre (file : List ℕ) : ℕ → ℕ → List Piece → ℕ → Type 0 where
  tail : {at number gap : ℕ} → Passes (drop at file) gap → ¬ (BeginsWithByte 35 (drop (at + gap) file)) → PiecesAre file at number [] (at + gap)
  piece : {at number next end : ℕ} {p : Piece} {others : List Piece} → IsNext file at number p next → PiecesAre file next (number + 1) others end → PiecesAre file at number (p ∷ others) end
