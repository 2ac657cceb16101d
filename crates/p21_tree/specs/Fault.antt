-- The first token with which no sentence goes on. A language L says which token lists are sentences, where so
-- many parentheses may be open.
use Rattle.std.specs.Prelude.{◌≡◌, ◌≢◌, ℕ, List, [], ◌∷◌, ◌++◌}
use Rattle.p21_text.specs.Spelling as token
use Rattle.p21_text.specs.Tokens.{Placed}
use Rattle.p21_tree.specs.Sentence.{File, Opening, Instance, IsFile, IsPreface, IsInstance, IsPiece, IsTail, deepest}

abbrev pub files : ℕ → List Placed → Type 0
files limit tokens = (f : File) × IsFile limit tokens f

abbrev pub prefaces : ℕ → List Placed → Type 0
prefaces limit tokens = (o : Opening) × IsPreface limit tokens o

abbrev pub instances : ℕ → List Placed → Type 0
instances limit tokens = (i : Instance) × IsInstance limit tokens i

abbrev pub pieces : ℕ → List Placed → Type 0
pieces limit tokens = (i : Instance) × IsPiece limit tokens i

abbrev pub tails : ℕ → List Placed → Type 0
tails limit tokens = IsTail tokens

-- some tokens begin a sentence
pub record Begins (L : ℕ → List Placed → Type 0) (limit : ℕ) (tokens : List Placed) : Type 0 where
  pub rest : List Placed
  pub sentence : L limit (tokens ++ rest)

-- the kinds of a grammar fault
pub data Kind : Type 0 where
  bad_token : Kind
  unexpected : Kind
  truncated : Kind
  too_deep : Kind

-- a parenthesis that would go on but for the limit
pub record OnlyTooDeep (L : ℕ → List Placed → Type 0) (before : List Placed) (t : Placed) : Type 0 where
  pub opens : t.token ≡ token.lparen
  pub limit : ℕ
  pub begins : Begins L limit (before ++ t ∷ [])

pub data IsKind (L : ℕ → List Placed → Type 0) (before : List Placed) (t : Placed) : Kind → Type 0 where
  bad : t.token ≡ token.bad → IsKind L before t bad_token
  end : t.token ≡ token.end → IsKind L before t truncated
  deep : OnlyTooDeep L before t → IsKind L before t too_deep
  other : t.token ≢ token.bad → t.token ≢ token.end → ¬ (OnlyTooDeep L before t) → IsKind L before t unexpected

-- The tokens before t begin a sentence, those with t begin none, and what kind of fault that is, and where.
pub record IsFault (L : ℕ → List Placed → Type 0) (before : List Placed) (t : Placed) (kind : Kind) (at : ℕ) : Type 0 where
  pub goes : Begins L deepest before
  pub stops : ¬ (Begins L deepest (before ++ t ∷ []))
  pub is_kind : IsKind L before t kind
  pub place : at ≡ t.start
