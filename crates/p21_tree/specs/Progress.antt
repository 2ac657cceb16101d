-- How far the code has come in a source: the tokens after it, with their places in the file.
use Rattle.std.specs.Prelude.{◌≡◌, ℕ, ◌+◌, List}
use Rattle.p21_text.specs.Tokens.{Placed, First, Tokens, TokensUpTo}
use Rattle.p21_tree.specs.declared.source.Source.{Source}
use Rattle.p21_tree.specs.declared.faults.Fault.{Fault}
use Rattle.p21_tree.specs.Fault.{Kind}
use Rattle.p21_tree.specs.Texts.{shift, shifted, fault_kind}
use Rattle.p21_tree.specs.Languages.{Stuck}

-- The tokens from a place of the source to another.
pub record Chain (s : Source) (at : ℕ) (ts : List Placed) (end : ℕ) : Type 0 where
  pub tokens : List Placed
  pub are : TokensUpTo s.text.now at tokens end
  pub in_file : ts ≡ shifted s.base tokens

-- The tokens from a place of the source to another are such.
pub record Covers (P : List Placed → Type 0) (s : Source) (at end : ℕ) : Type 0 where
  pub tokens : List Placed
  pub chain : Chain s at tokens end
  pub are : P tokens

-- The tokens of the source from a place on, up to its end, are such.
pub record Finishes (P : List Placed → Type 0) (s : Source) (at : ℕ) : Type 0 where
  pub tokens : List Placed
  pub raw : List Placed
  pub whole : Tokens s.text.now at raw
  pub in_file : tokens ≡ shifted s.base raw
  pub are : P tokens

-- The tokens of the source from a place on leave the language, and there is the fault.
pub record Fails (L : ℕ → List Placed → Type 0) (limit : ℕ) (s : Source) (at : ℕ) (fault : Fault) : Type 0 where
  pub before : List Placed
  pub place : ℕ
  pub token : Placed
  pub kind : Kind
  pub chain : Chain s at before place
  pub next : First s.text.now place token
  pub stuck : Stuck L limit before (shift s.base token) kind
  pub place_is : fault.at ≡ s.base + token.start
  pub kind_is : fault.kind ≡ fault_kind kind
