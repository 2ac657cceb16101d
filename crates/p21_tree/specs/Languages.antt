-- How languages are put together from smaller ones, and the token with which a list of tokens leaves one. A
-- language says which token lists are its sentences, where so many parentheses may be open.
use Rattle.std.specs.Prelude.{◌≡◌, ◌≢◌, ◌⊎◌, ℕ, suc, ◌≤◌, List, [], ◌∷◌, ◌++◌}
use Rattle.p21_text.specs.Spelling.{Symbol}
use Rattle.p21_text.specs.Spelling as token
use Rattle.p21_text.specs.Tokens.{Placed}
use Rattle.p21_tree.specs.Fault.{Begins, Kind, bad_token, unexpected, truncated, too_deep}

abbrev pub Language : Type 1
Language = ℕ → List Placed → Type 0

-- one token of a kind
pub record Just (T : Symbol → Type 0) (limit : ℕ) (ts : List Placed) : Type 0 where
  pub token : Placed
  pub alone : ts ≡ token ∷ []
  pub fits : T token.token

-- a sentence of one language, and after it one of another
pub record Then (P Q : ℕ → List Placed → Type 0) (limit : ℕ) (ts : List Placed) : Type 0 where
  pub front : List Placed
  pub back : List Placed
  pub parts : ts ≡ front ++ back
  pub first : P limit front
  pub second : Q limit back

-- a sentence of one language or of another
abbrev pub Either : (ℕ → List Placed → Type 0) → (ℕ → List Placed → Type 0) → ℕ → List Placed → Type 0
Either P Q limit ts = P limit ts ⊎ Q limit ts

-- a sentence in which one parenthesis more is open
pub record Within (P : ℕ → List Placed → Type 0) (limit : ℕ) (ts : List Placed) : Type 0 where
  pub left : ℕ
  pub limit_is : limit ≡ suc left
  pub inside : P left ts

-- any number of sentences of one language, and after them one of another
pub data Many (P Q : ℕ → List Placed → Type 0) (limit : ℕ) : List Placed → Type 0 where
  stop : {ts : List Placed} → Q limit ts → Many P Q limit ts
  again : {ts : List Placed} (front back : List Placed) → ts ≡ front ++ back → P limit front → Many P Q limit back → Many P Q limit ts

-- why a token is refused, where so many parentheses may be open
abbrev pub Why : (ℕ → List Placed → Type 0) → ℕ → List Placed → Placed → Kind → Type 0
Why L limit before t bad_token = t.token ≡ token.bad
Why L limit before t truncated = t.token ≡ token.end
Why L limit before t too_deep = (t.token ≡ token.lparen) × ((m : ℕ) × (limit ≤ m) × Begins L m (before ++ t ∷ []))
Why L limit before t unexpected = (t.token ≢ token.bad) × (t.token ≢ token.end) × (t.token ≡ token.lparen → (m : ℕ) → ¬ (Begins L m (before ++ t ∷ [])))

-- Some tokens begin a sentence and are not at its end, and the next one does not go on with it.
pub record Stuck (L : ℕ → List Placed → Type 0) (limit : ℕ) (before : List Placed) (t : Placed) (kind : Kind) : Type 0 where
  pub goes : Begins L limit before
  pub stops : ¬ (Begins L limit (before ++ t ∷ []))
  pub unfinished : (m : ℕ) (front rest : List Placed) → before ≡ front ++ rest → ¬ (L m front)
  pub why : Why L limit before t kind

-- the kind of a fault at a token that nothing goes on with
abbrev pub kind_now : Symbol → Kind
kind_now token.bad = bad_token
kind_now token.end = truncated
kind_now _ = unexpected
