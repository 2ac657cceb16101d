-- Tokens of a kind that stand in no sentence of a language.
use Rattle.std.proofs.Common.{◌≡◌, inl, inr, ℕ, List, [], ◌∷◌, ◌++◌, sym, subst, ◌∙◌}
use Rattle.p21_text.specs.Spelling.{Symbol}
use Rattle.p21_text.specs.Spelling as token
use Rattle.p21_text.specs.Tokens.{Placed, symbols}
use Rattle.p21_tree.specs.Tree.{Tree, Trees}
use Rattle.p21_tree.specs.Grammar.{IsLeaf, IsKey, IsParam, IsOptional, IsParams}
use Rattle.p21_tree.specs.Grammar as grammar
use Rattle.p21_tree.specs.Machine.{leaf, key, open_, close_, comma, other, class_of}
use Rattle.p21_tree.specs.Languages.{Language, Just, Then, Either, Within, Many, stop, again}
use Rattle.p21_tree.specs.Parts.{Closed, Is, Terminal, KeyToken, Arguments, Keyed, Records, MoreRecords, SomeRecords, Complex, Form}
use Rattle.p21_tree.proofs.Complete.{leaf_class, key_class}

-- none of the tokens is of a kind
abbrev pub NoneOf : (Symbol → Type 0) → List Placed → Type 0
NoneOf X [] = Unit {0}
NoneOf X (t ∷ ts) = (¬ (X t.token)) × NoneOf X ts

abbrev pub Avoids : (Symbol → Type 0) → Language → Type 0
Avoids X L = (m : ℕ) (ts : List Placed) → L m ts → NoneOf X ts

-- a kind of token that stands in no parameter
abbrev pub Outer : (Symbol → Type 0) → Type 0
Outer X = (s : Symbol) → X s → class_of s ≡ other

abbrev pub NoSymbol : (Symbol → Type 0) → List Symbol → Type 0
NoSymbol X [] = Unit {0}
NoSymbol X (s ∷ ss) = (¬ (X s)) × NoSymbol X ss

module _ (X : Symbol → Type 0) where
  pub none_append : (a b : List Placed) → NoneOf X a → NoneOf X b → NoneOf X (a ++ b)
  none_append [] b p q = q
  none_append (t ∷ a) b p q = (p.0, none_append a b p.1 q)

  pub none_left : (a b : List Placed) → NoneOf X (a ++ b) → NoneOf X a
  none_left [] b h = tt
  none_left (t ∷ a) b h = (h.0, none_left a b h.1)

  pub none_right : (a b : List Placed) → NoneOf X (a ++ b) → NoneOf X b
  none_right [] b h = h
  none_right (t ∷ a) b h = none_right a b h.1

  pub avoids_just : (T : Symbol → Type 0) → ((s : Symbol) → T s → ¬ (X s)) → Avoids X (Just T)
  avoids_just T f m ts h = subst (NoneOf X) (sym h.alone) (f h.token.token h.fits, tt)

  pub avoids_then : (P Q : Language) → Avoids X P → Avoids X Q → Avoids X (Then P Q)
  avoids_then P Q p q m ts h = subst (NoneOf X) (sym h.parts) (none_append h.front h.back (p m h.front h.first) (q m h.back h.second))

  pub avoids_either : (P Q : Language) → Avoids X P → Avoids X Q → Avoids X (Either P Q)
  avoids_either P Q p q m ts h = elim h [ inl x ↦ p m ts x | inr x ↦ q m ts x ]

  pub avoids_within : (P : Language) → Avoids X P → Avoids X (Within P)
  avoids_within P p m ts h = p h.left ts h.inside

  pub avoids_many : (P Q : Language) (m : ℕ) (ts : List Placed) → Avoids X P → Avoids X Q → Many P Q m ts → NoneOf X ts
  avoids_many P Q m ts p q (stop h) = q m ts h
  avoids_many P Q m ts p q (again front back e x h) = subst (NoneOf X) (sym e) (none_append front back (p m front x) (avoids_many P Q m back p q h))

  pub symbols_append : (a b : List Symbol) → NoSymbol X a → NoSymbol X b → NoSymbol X (a ++ b)
  symbols_append [] b p q = q
  symbols_append (s ∷ a) b p q = (p.0, symbols_append a b p.1 q)

  pub none_of_symbols : (ts : List Placed) → NoSymbol X (symbols ts) → NoneOf X ts
  none_of_symbols [] h = tt
  none_of_symbols (t ∷ ts) h = (h.0, none_of_symbols ts h.1)

module _ (X : Symbol → Type 0) (outer : Outer X) where
  pub open_not : ¬ (X token.lparen)
  open_not h = let e : open_ ≡ other = outer token.lparen h in cc

  pub close_not : ¬ (X token.rparen)
  close_not h = let e : close_ ≡ other = outer token.rparen h in cc

  pub comma_not : ¬ (X token.comma)
  comma_not h = let e : comma ≡ other = outer token.comma h in cc

  pub leaf_not : {s : Symbol} {t : Tree} → IsLeaf s t → ¬ (X s)
  leaf_not {s} {t} l h = let e : leaf t ≡ other = sym (leaf_class l) ∙ outer s h in cc

  pub key_not : {s : Symbol} {k : List ℕ} → IsKey s k → ¬ (X s)
  key_not {s} {k} l h = let e : key k ≡ other = sym (key_class l) ∙ outer s h in cc

  mutual
    pub avoids_param : {left : ℕ} {ts : List Symbol} {t : Tree} → IsParam left ts t → NoSymbol X ts
    avoids_param (grammar.leaf l) = (leaf_not l, tt)
    avoids_param (grammar.list {tokens} o) = (open_not, symbols_append X tokens (token.rparen ∷ []) (avoids_optional o) (close_not, tt))
    avoids_param (grammar.typed {tokens} k p) = (key_not k, (open_not, symbols_append X tokens (token.rparen ∷ []) (avoids_param p) (close_not, tt)))

    pub avoids_optional : {left : ℕ} {ts : List Symbol} {found : Trees} → IsOptional left ts found → NoSymbol X ts
    avoids_optional grammar.empty = tt
    avoids_optional (grammar.params ps) = avoids_params ps

    pub avoids_params : {left : ℕ} {ts : List Symbol} {found : Trees} → IsParams left ts found → NoSymbol X ts
    avoids_params (grammar.one p) = avoids_param p
    avoids_params (grammar.comma {tokens} {others} p ps) = symbols_append X tokens (token.comma ∷ others) (avoids_param p) (comma_not, avoids_params ps)

  pub avoids_closed : Avoids X Closed
  avoids_closed m ts h = none_of_symbols X ts (subst (NoSymbol X) (sym h.1.parts) (symbols_append X h.1.inner (token.rparen ∷ []) (avoids_optional h.1.params) (close_not, tt)))

  pub avoids_terminal : (s : Symbol) → ¬ (X s) → Avoids X (Terminal s)
  avoids_terminal s h = avoids_just X (Is s) (λ t e. subst (λ x. ¬ (X x)) (sym e) h)

  pub avoids_arguments : Avoids X Arguments
  avoids_arguments = avoids_then X (Terminal token.lparen) Closed (avoids_terminal token.lparen open_not) avoids_closed

  pub avoids_keyed : (K : Symbol → Type 0) → ((s : Symbol) → K s → ¬ (X s)) → Avoids X (Keyed K)
  avoids_keyed K f = avoids_within X (Then (Just K) Arguments) (avoids_then X (Just K) Arguments (avoids_just X K f) avoids_arguments)

  pub avoids_records : Avoids X Records
  avoids_records = avoids_keyed KeyToken (λ s k. key_not k.1)

  pub avoids_more : Avoids X MoreRecords
  avoids_more m ts h = avoids_many X Records (Terminal token.rparen) m ts avoids_records (avoids_terminal token.rparen close_not) h

  pub avoids_form : Avoids X Form
  avoids_form = avoids_either X Records Complex avoids_records (avoids_within X (Then (Terminal token.lparen) SomeRecords) (avoids_then X (Terminal token.lparen) SomeRecords (avoids_terminal token.lparen open_not) (avoids_then X Records MoreRecords avoids_records avoids_more)))
