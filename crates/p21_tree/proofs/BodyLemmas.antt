-- The strings and binaries of a tree are those of tokens, so they hold the bodies of such.
use Rattle.std.proofs.Common.{◌≡◌, ℕ, List, [], ◌∷◌, ◌++◌, refl, sym, ap, subst, ◌∙◌, Vec, Global}
use Rattle.std.proofs.lemmas.List.Elements.{All-nil, All-cons}
use Rattle.p21_text.specs.Contents.{IsContent}
use Rattle.p21_text.specs.Laws.{HasContent}
use Rattle.p21_text.specs.Spelling.{Symbol}
use Rattle.p21_text.specs.Spelling as token
use Rattle.p21_text.specs.Tokens.{Placed, TokensUpTo, symbols}
use Rattle.p21_text.specs.Tokens as text
use Rattle.p21_tree.specs.declared.source.Source.{Source}
use Rattle.p21_tree.specs.declared.params.Param.{Param}
use Rattle.p21_tree.specs.declared.params.Param.TheViews.{Items}
use Rattle.p21_tree.specs.Plain.{plain, plain_all}
use Rattle.p21_tree.specs.Tree.{Tree, Trees}
use Rattle.p21_tree.specs.Grammar.{IsLeaf, IsParam, IsOptional, IsParams}
use Rattle.p21_tree.specs.Grammar as grammar
use Rattle.p21_tree.specs.Bodies.{HasBodies, HaveBodies, AllHaveBodies}
use Rattle.p21_tree.specs.Texts.{shifted}
use Rattle.p21_tree.specs.Parts.{IsArguments}
use Rattle.p21_tree.specs.Progress.{Chain, Covers}
use Rattle.p21_tree.proofs.OpenedLemmas.{plain_items}

-- each token carries a text of its kind
abbrev pub HaveContents : List Symbol → Type 0
HaveContents [] = Unit {0}
HaveContents (s ∷ ss) = IsContent s × HaveContents ss

-- each first token of a text carries a text of its kind
abbrev pub FirstsHaveContents : Type 0
FirstsHaveContents = (text : List ℕ) (at : ℕ) → HasContent text at

pub tokens_contents : FirstsHaveContents → {bytes : List ℕ} {at end : ℕ} {ts : List Placed} → TokensUpTo bytes at ts end → HaveContents (symbols ts)
tokens_contents law text.none = tt
tokens_contents law {bytes} {at} (text.more {t} f n r) = (law bytes at t f, tokens_contents law r)

pub symbols_shifted : (base : ℕ) (ts : List Placed) → symbols (shifted base ts) ≡ symbols ts
symbols_shifted base [] = refl
symbols_shifted base (t ∷ ts) = ap (λ x. t.token ∷ x) (symbols_shifted base ts)

pub chain_contents : FirstsHaveContents → (s : Source) (at end : ℕ) (ts : List Placed) → Chain s at ts end → HaveContents (symbols ts)
chain_contents law s at end ts c = subst HaveContents (sym (ap symbols c.in_file ∙ symbols_shifted s.base c.tokens)) (tokens_contents law c.are)

pub front_contents : (a b : List Symbol) → HaveContents (a ++ b) → HaveContents a
front_contents [] b h = tt
front_contents (s ∷ a) b h = (h.0, front_contents a b h.1)

pub back_contents : (a b : List Symbol) → HaveContents (a ++ b) → HaveContents b
back_contents [] b h = h
back_contents (s ∷ a) b h = back_contents a b h.1

pub leaf_bodies : {s : Symbol} {t : Tree} → IsLeaf s t → IsContent s → HasBodies t
leaf_bodies grammar.absent h = tt
leaf_bodies grammar.derived h = tt
leaf_bodies grammar.int h = tt
leaf_bodies grammar.real h = tt
leaf_bodies grammar.str h = h
leaf_bodies grammar.reference h = tt
leaf_bodies grammar.enumeration h = tt
leaf_bodies grammar.binary h = ∣ h ∣₁

mutual
  pub param_bodies : {left : ℕ} {ts : List Symbol} {t : Tree} → IsParam left ts t → HaveContents ts → HasBodies t
  param_bodies (grammar.leaf l) h = leaf_bodies l h.0
  param_bodies (grammar.list {tokens} o) h = optional_bodies o (front_contents tokens (token.rparen ∷ []) h.1)
  param_bodies (grammar.typed {tokens} k p) h = param_bodies p (front_contents tokens (token.rparen ∷ []) h.1.1)

  pub optional_bodies : {left : ℕ} {ts : List Symbol} {found : Trees} → IsOptional left ts found → HaveContents ts → HaveBodies found
  optional_bodies grammar.empty h = tt
  optional_bodies (grammar.params ps) h = params_bodies ps h

  pub params_bodies : {left : ℕ} {ts : List Symbol} {found : Trees} → IsParams left ts found → HaveContents ts → HaveBodies found
  params_bodies (grammar.one p) h = (param_bodies p h, tt)
  params_bodies (grammar.comma {tokens} {others} p ps) h = (param_bodies p (front_contents tokens (token.comma ∷ others) h), params_bodies ps (back_contents tokens (token.comma ∷ others) h).1)

-- as a fact about each of the parameters

pub all_have : (ps : List Param) → HaveBodies (plain_all ps) → AllHaveBodies ps
all_have [] h = All-nil (λ p. HasBodies (plain p))
all_have (p ∷ ps) h = All-cons (λ q. HasBodies (plain q)) p ps h.0 (all_have ps h.1)

-- those of a list
pub items_have : (v : Vec Param Global) → HasBodies (plain (Items v)) → AllHaveBodies v.items
items_have v h = all_have v.items (subst HasBodies (plain_items v) h)

pub arguments_bodies : FirstsHaveContents → (s : Source) (at end left : ℕ) (ps : List Param) → Covers (λ ts. IsArguments left ts (plain_all ps)) s at end → AllHaveBodies ps
arguments_bodies law s at end left ps c =
    let a : HaveContents (symbols c.tokens) = chain_contents law s at end c.tokens c.chain in
    let b : HaveContents (symbols (c.are.open_ ∷ c.are.rest)) = subst (λ x. HaveContents (symbols x)) c.are.parts a in
    let d : HaveContents (c.are.closed.inner ++ token.rparen ∷ []) = subst HaveContents c.are.closed.parts b.1 in
    all_have ps (optional_bodies c.are.closed.params (front_contents c.are.closed.inner (token.rparen ∷ []) d))
