-- Tokens of a file from a place to a place, and after it.
use Rattle.std.proofs.Common.{◌≡◌, ◌≢◌, ℕ, List, [], ◌∷◌, ◌++◌, refl, ap, arith}
use Rattle.std.specs.Prelude.{All}
use Rattle.std.proofs.lemmas.List.{map-append}
use Rattle.std.proofs.lemmas.List.Elements.{All-cons, All-map}
use Rattle.p21_text.specs.Spelling as token
use Rattle.p21_text.specs.Tokens.{Placed, First, Tokens, TokensUpTo, IsLast}
use Rattle.p21_text.specs.Tokens as tokens
use Rattle.p21_tree.specs.Texts.{shift, shifted}
use Rattle.p21_tree.specs.InOrder.{HasNoSemi}
use Rattle.p21_cut.specs.Tokens.{TokensAndNext}

pub up_to_on : (text : List ℕ) (at place end : ℕ) (a b : List Placed) → TokensUpTo text at a place → TokensUpTo text place b end → TokensUpTo text at (a ++ b) end
up_to_on text at place end a b tokens.none h = h
up_to_on text at place end a b (tokens.more {t = t} {ts = ts} f nl others) h = tokens.more f nl (up_to_on text t.after place end ts b others h)

pub tokens_on : (text : List ℕ) (at place : ℕ) (a b : List Placed) → TokensUpTo text at a place → Tokens text place b → Tokens text at (a ++ b)
tokens_on text at place a b tokens.none h = h
tokens_on text at place a b (tokens.more {t = t} {ts = ts} f nl others) h = tokens.more f nl (tokens_on text t.after place ts b others h)

-- all tokens of a text from a place on, and the last of them
pub record AllTokens (text : List ℕ) (at : ℕ) (ts : List Placed) : Type 0 where
  pub before : List Placed
  pub last : Placed
  pub parts : ts ≡ before ++ last ∷ []
  pub is_last : IsLast last.token
  pub up_to : TokensAndNext text at before last

pub all_tokens : (text : List ℕ) (at : ℕ) (ts : List Placed) → Tokens text at ts → AllTokens text at ts
all_tokens text at ts (tokens.last {t = t} f l) = record { before = []; last = t; parts = refl; is_last = l; up_to = record { place = at; tokens = tokens.none; next = f } }
all_tokens text at ts (tokens.more {t = t} {ts = others} f nl rest) =
    let all : AllTokens text t.after others = all_tokens text t.after others rest in
    record {
      before = t ∷ all.before;
      last = all.last;
      parts = ap (λ l. t ∷ l) all.parts;
      is_last = all.is_last;
      up_to = record { place = all.up_to.place; tokens = tokens.more f nl all.up_to.tokens; next = all.up_to.next };
    }

pub none_last : (text : List ℕ) (at place : ℕ) (ts : List Placed) → TokensUpTo text at ts place → All (λ (u : Placed). ¬ (IsLast u.token)) ts
none_last text at place ts tokens.none = λ k d h. absurd (omega arith)
none_last text at place ts (tokens.more {t = t} {ts = others} f nl rest) = All-cons (λ (u : Placed). ¬ (IsLast u.token)) t others nl (none_last text t.after place others rest)

pub shifted_snoc : (s : ℕ) (before : List Placed) (t : Placed) → shifted s (before ++ t ∷ []) ≡ shifted s before ++ shift s t ∷ []
shifted_snoc s before t = map-append (shift s) before (t ∷ [])

pub shifted_no_semi : (s : ℕ) (body : List Placed) → HasNoSemi body → HasNoSemi (shifted s body)
shifted_no_semi s body h = All-map (λ (t : Placed). t.token ≢ token.semi) (shift s) body h
