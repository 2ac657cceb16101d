-- The rules of a WHERE clause.
use Rattle.std.specs.Prelude.{◌≡◌, ℕ, Bool, true, false, List, [], ◌∷◌, Option, Some, None, if◌then◌else◌, ◌||◌, ◌&&◌, not, option_map}
use Rattle.p21_express.specs.Word.{Word, name, symbol, is_symbol, begins_name, begins_symbol}
use Rattle.p21_express.specs.Reader.{◌>>=◌, many_at, symbol_at}
use Rattle.p21_expression.specs.declared.rules.DomainRule as source
use Rattle.p21_expression.specs.Grammar.{Several, here, IsExpression}
use Rattle.p21_expression.specs.Plain.{plain, plain_name}
use Rattle.p21_expression.specs.Reader.{expression_at, named_at}
use Rattle.p21_expression.specs.Tree.{Name, Tree}

-- a rule: its label, where it has one, and its condition
pub record DomainRule : Type 0 where
  pub label : Option Name
  pub condition : Tree

abbrev pub plain_rule : source.DomainRule → DomainRule
plain_rule r = record { label = option_map plain_name r.label; condition = plain r.condition }

-- no expression begins so, but `:=:` and `:<>:` do after their colon
abbrev pub begins_comparison : List Word → Bool
begins_comparison ws = begins_symbol 61 ws || begins_symbol 60 ws

-- the second word is a colon that begins no operator
abbrev pub has_label : List Word → Bool
has_label [] = false
has_label (w ∷ []) = false
has_label (w ∷ v ∷ ws) = is_symbol 58 v && not (begins_comparison ws)

-- label ':'
unfoldable pub label_at : List Word → Option (Option Name × List Word)
label_at ws = do
  n ← named_at ws
  rest ← symbol_at 58 n.1
  Some (Some n.0, rest)

-- [ label ':' ]
unfoldable pub if_label_at : List Word → Option (Option Name × List Word)
if_label_at ws = if has_label ws then label_at ws else Some (None, ws)

-- [ label ':' ] expression ';'
unfoldable pub rule_at : List Word → Option (DomainRule × List Word)
rule_at ws = do
  l ← if_label_at ws
  condition ← expression_at l.1
  rest ← symbol_at 59 condition.1
  Some (record { label = l.0; condition = condition.0 }, rest)

-- { [ label ':' ] expression ';' }, up to the word that ends the clause
abbrev pub rules_at : List ℕ → List Word → Option (List DomainRule × List Word)
rules_at last ws = many_at (begins_name last) rule_at ws

-- ---- by the grammar

-- [ label ':' ] expression ';'
pub data RuleIs : List Word → DomainRule → List Word → Type 0 where
  labelled : {n : List ℕ} {ws rest : List Word} {t : Tree} → IsExpression ws t (symbol 59 ∷ rest) → RuleIs (name n ∷ symbol 58 ∷ ws) (record { label = Some (here n (symbol 58 ∷ ws)); condition = t }) rest
  unlabelled : {ws rest : List Word} {t : Tree} → IsExpression ws t (symbol 59 ∷ rest) → RuleIs ws (record { label = None; condition = t }) rest

-- rules up to the word that ends the clause
pub record AreRules (last : List ℕ) (ws : List Word) (rules : List DomainRule) (rest : List Word) : Type 0 where
  pub rules_are : Several RuleIs ws rules rest
  pub ends : begins_name last rest ≡ true
