-- The clauses UNIQUE and INVERSE of an entity, as its words have them.
use Rattle.std.specs.Prelude.{ℕ, Bool, false, List, [], ◌∷◌, Option, Some, None, if◌then◌else◌, codes, map, option_map}
use Rattle.p21_express.specs.Word.{Word, begins_symbol}
use Rattle.p21_express.specs.Grammar.{Naming}
use Rattle.p21_express.specs.Naming.{plain_naming}
use Rattle.p21_express.specs.Reader.{◌>>=◌, many_at, name_at, naming_at, next_naming, symbol_at, word_at}
use Rattle.p21_rule_text.specs.Bounds.{bounds_at}
use Rattle.p21_rule_text.specs.declared.bounds.Bounds.{Bounds}
use Rattle.p21_rule_text.specs.declared.clauses.InverseClause as inverse_source
use Rattle.p21_rule_text.specs.declared.clauses.UniqueClause as unique_source

-- a rule UNIQUE: its label, where it has one, and its attributes
pub record UniqueClause : Type 0 where
  pub label : Option (List ℕ)
  pub names : List Naming

-- an INVERSE attribute: its name, its bounds, where they are numbers, the entity that refers, and the attribute by which it does
pub record InverseClause : Type 0 where
  pub name : Naming
  pub bounds : Option Bounds
  pub source : List ℕ
  pub attribute : Naming

abbrev pub plain_unique : unique_source.UniqueClause → UniqueClause
plain_unique c = record { label = option_map (λ n. n.now) c.label; names = map plain_naming c.names.items }

abbrev pub plain_inverse : inverse_source.InverseClause → InverseClause
plain_inverse c = record { name = plain_naming c.name; bounds = c.bounds; source = c.source.now; attribute = plain_naming c.attribute }

-- ---- UNIQUE

-- the second word is a colon
abbrev pub has_label : List Word → Bool
has_label [] = false
has_label (w ∷ ws) = begins_symbol 58 ws

-- label ':'
unfoldable pub label_at : List Word → Option (Option (List ℕ) × List Word)
label_at ws = do
  n ← name_at ws
  rest ← symbol_at 58 n.1
  Some (Some n.0, rest)

-- [ label ':' ]
unfoldable pub if_label_at : List Word → Option (Option (List ℕ) × List Word)
if_label_at ws = if has_label ws then label_at ws else Some (None, ws)

-- attr { ',' attr } ';'
unfoldable pub names_at : List Word → Option (List Naming × List Word)
names_at ws = do
  x ← naming_at ws
  xs ← many_at (begins_symbol 59) next_naming x.1
  rest ← symbol_at 59 xs.1
  Some (x.0 ∷ xs.0, rest)

-- [ label ':' ] attr { ',' attr } ';'
unfoldable pub unique_at : List Word → Option (UniqueClause × List Word)
unique_at ws = do
  l ← if_label_at ws
  xs ← names_at l.1
  Some (record { label = l.0; names = xs.0 }, xs.1)

-- ---- INVERSE

-- '.' attribute, of this entity
unfoldable pub attribute_of_at : List ℕ → List Word → Option (Naming × List Word)
attribute_of_at e ws = do
  dot ← symbol_at 46 ws
  n ← name_at dot
  Some (record { name = n.0; of = Some e }, n.1)

-- [ entity '.' ] attribute
unfoldable pub attribute_at : List Word → Option (Naming × List Word)
attribute_at ws = do
  n ← name_at ws
  if begins_symbol 46 n.1 then attribute_of_at n.0 n.1 else Some (record { name = n.0; of = None }, n.1)

-- attr ':' [ ( SET | BAG ) [ bounds ] OF ] entity FOR [ entity '.' ] attribute ';'
unfoldable pub inverse_at : List Word → Option (InverseClause × List Word)
inverse_at ws = do
  x ← naming_at ws
  type ← symbol_at 58 x.1
  b ← bounds_at type
  e ← name_at b.1
  for ← word_at (codes "FOR") e.1
  a ← attribute_at for
  rest ← symbol_at 59 a.1
  Some (record { name = x.0; bounds = b.0; source = e.0; attribute = a.0 }, rest)
