-- The tokens of a text, with their places.
use Rattle.std.specs.Prelude.{◌≡◌, ◌≢◌, ℕ, ◌+◌, ◌≤◌, List, [], ◌∷◌, length, take, drop, map}
use Rattle.p21_text.specs.Separators.{IsSeparators}
use Rattle.p21_text.specs.Spelling.{Symbol, Spells, symbol, end, bad}
use Rattle.p21_text.specs.declared.token.Lexed.{Lexed}

-- the first n bytes are separators that cannot be extended
pub record Passes (text : List ℕ) (n : ℕ) : Type 0 where
  pub fits : n ≤ length text
  pub separators : IsSeparators (take n text)
  pub longest : (m : ℕ) → m ≤ length text → IsSeparators (take m text) → m ≤ n

-- the first n bytes spell a token, and no longer front does
pub record Longest (text : List ℕ) (n : ℕ) (token : Symbol) : Type 0 where
  pub fits : n ≤ length text
  pub spelled : Spells (take n text) (drop n text) token
  pub longest : (m : ℕ) (other : Symbol) → m ≤ length text → Spells (take m text) (drop m text) other → m ≤ n

-- no token begins a text
abbrev pub NoneBegins : List ℕ → Type 0
NoneBegins text = (m : ℕ) (other : Symbol) → m ≤ length text → ¬ (Spells (take m text) (drop m text) other)

-- The token at the front of a text, with no separators before it, and how many bytes it takes.
pub data Front : List ℕ → ℕ → Symbol → Type 0 where
  token : {text : List ℕ} {n : ℕ} {t : Symbol} → Longest text n t → Front text n t
  ended : Front [] 0 end
  none : {text : List ℕ} → text ≢ [] → NoneBegins text → Front text 0 bad

-- a token, where it stands, and the place after it
pub record Placed : Type 0 where
  pub start : ℕ
  pub after : ℕ
  pub token : Symbol

-- The first token of a text from a place on.
-- After the longest separators, the longest spelled prefix; End where nothing is left, Bad where no token begins.
pub record First (text : List ℕ) (at : ℕ) (t : Placed) : Type 0 where
  pub gap : ℕ
  pub len : ℕ
  pub passes : Passes (drop at text) gap
  pub front : Front (drop gap (drop at text)) len t.token
  pub start_is : t.start ≡ at + gap
  pub after_is : t.after ≡ t.start + len

-- the token is the last one of its list
pub data IsLast : Symbol → Type 0 where
  at_end : IsLast end
  at_bad : IsLast bad

-- The tokens of a text from a place on, up to End or Bad.
pub data Tokens (text : List ℕ) : ℕ → List Placed → Type 0 where
  last : {at : ℕ} {t : Placed} → First text at t → IsLast t.token → Tokens text at (t ∷ [])
  more : {at : ℕ} {t : Placed} {ts : List Placed} → First text at t → ¬ (IsLast t.token) → Tokens text t.after ts → Tokens text at (t ∷ ts)

-- Tokens of a text, one after the other from a place up to another, none of them End or Bad.
pub data TokensUpTo (text : List ℕ) : ℕ → List Placed → ℕ → Type 0 where
  none : {at : ℕ} → TokensUpTo text at [] at
  more : {at end : ℕ} {t : Placed} {ts : List Placed} → First text at t → ¬ (IsLast t.token) → TokensUpTo text t.after ts end → TokensUpTo text at (t ∷ ts) end

-- what the code gives, without where its text lies in memory
abbrev pub placed : Lexed → Placed
placed l = record { start = l.start; after = l.after; token = symbol l.token }

-- the tokens alone
abbrev pub symbols : List Placed → List Symbol
symbols ts = map (λ t. t.token) ts
