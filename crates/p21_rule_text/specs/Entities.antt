-- The clauses of the entities of a schema, in the order of the text. What else is declared is skipped.
use Rattle.std.specs.Prelude.{◌≡◌, ℕ, Bool, true, false, List, [], ◌∷◌, ◌++◌, Option, Some, None, if◌then◌else◌, codes, map}
use Rattle.p21_express.specs.declared.keywords.DeclWord.{DeclWord}
use Rattle.p21_express.specs.declared.keywords.DeclWord.TheVariants as decls
use Rattle.p21_express.specs.Word.{Word, begins_name}
use Rattle.p21_express.specs.Words.{AreWords}
use Rattle.p21_express.specs.Grammar.{begins_rules, ends_attributes}
use Rattle.p21_express.specs.Keywords.{decl_word_of}
use Rattle.p21_express.specs.Reader.{◌>>=◌, behind_stop, ends_at, if_name, many_at, name_at, symbol_at, up_to, word_at}
use Rattle.p21_rule_text.specs.Clauses.{InverseClause, UniqueClause, inverse_at, plain_inverse, plain_unique, unique_at}
use Rattle.p21_rule_text.specs.declared.entities.EntityClauses as source

-- an entity's name, its INVERSE attributes and its rules UNIQUE
pub record EntityClauses : Type 0 where
  pub name : List ℕ
  pub inverse : List InverseClause
  pub unique : List UniqueClause

abbrev pub plain_clauses : source.EntityClauses → EntityClauses
plain_clauses e = record { name = e.name.now; inverse = map plain_inverse e.inverse.items; unique = map plain_unique e.unique.items }

-- the entity of a declaration, or none
abbrev pub none_or_one : Option source.EntityClauses → List EntityClauses
none_or_one None = []
none_or_one (Some e) = plain_clauses e ∷ []

-- ---- entities

-- { tokens ';' } up to one of these words
unfoldable pub behind_statements : (List Word → Bool) → List Word → Option (List Word)
behind_statements stops ws = do
  xs ← many_at stops (up_to 59) ws
  Some xs.1

-- [ DERIVE { tokens ';' } ]
unfoldable pub behind_derive : List Word → Option (List Word)
behind_derive ws = if (if_name (codes "DERIVE") ws).0 then behind_statements begins_rules (if_name (codes "DERIVE") ws).1 else Some ws

-- { tokens ';' } [ DERIVE { tokens ';' } ]: SUPERTYPE, SUBTYPE and the attributes, explicit and in DERIVE, where there may be none
unfoldable pub behind_attributes : List Word → Option (List Word)
behind_attributes ws = do
  derive ← behind_statements ends_attributes ws
  behind_derive derive

-- INVERSE inverse { inverse }; no other section begins right after INVERSE
unfoldable pub inverses_at : List Word → Option (List InverseClause × List Word)
inverses_at ws = do
  first ← word_at (codes "INVERSE") ws
  if begins_rules first then None else many_at begins_rules inverse_at first

-- [ INVERSE inverse { inverse } ]
unfoldable pub if_inverses_at : List Word → Option (List InverseClause × List Word)
if_inverses_at ws = if begins_name (codes "INVERSE") ws then inverses_at ws else Some ([], ws)

-- UNIQUE unique { unique }; no other section begins right after UNIQUE
unfoldable pub uniques_at : List Word → Option (List UniqueClause × List Word)
uniques_at ws = do
  first ← word_at (codes "UNIQUE") ws
  if begins_rules first then None else many_at begins_rules unique_at first

-- [ UNIQUE unique { unique } ]
unfoldable pub if_uniques_at : List Word → Option (List UniqueClause × List Word)
if_uniques_at ws = if begins_name (codes "UNIQUE") ws then uniques_at ws else Some ([], ws)

-- [ WHERE tokens ] END_ENTITY
unfoldable pub entity_end : List Word → Option (List Word)
entity_end ws = if begins_name (codes "WHERE") ws then ends_at None (codes "END_ENTITY") 0 ws else word_at (codes "END_ENTITY") ws

-- an entity after the word ENTITY
unfoldable pub entity_at : List Word → Option (EntityClauses × List Word)
entity_at ws = do
  n ← name_at ws
  rules ← behind_attributes n.1
  is ← if_inverses_at rules
  us ← if_uniques_at is.1
  end ← entity_end us.1
  rest ← symbol_at 59 end
  Some (record { name = n.0; inverse = is.0; unique = us.0 }, rest)

-- ---- types

-- [ WHERE tokens ] END_TYPE
unfoldable pub type_end : List Word → Option (List Word)
type_end ws = if begins_name (codes "WHERE") ws then ends_at None (codes "END_TYPE") 0 ws else word_at (codes "END_TYPE") ws

-- a type after the word TYPE, in which there are no entities: name '=' type ';' [ WHERE tokens ] END_TYPE ';'
unfoldable pub type_at : List Word → Option (List EntityClauses × List Word)
type_at ws = do
  rules ← behind_stop 59 0 ws
  end ← type_end rules
  rest ← symbol_at 59 end
  Some ([], rest)

-- ---- the schema

-- the words after what is skipped
unfoldable pub skipped_at : Option (List ℕ) → List ℕ → List Word → Option (List EntityClauses × List Word)
skipped_at again last ws = do
  end ← ends_at again last 0 ws
  rest ← symbol_at 59 end
  Some ([], rest)

unfoldable pub one_entity_at : List Word → Option (List EntityClauses × List Word)
one_entity_at ws = do
  e ← entity_at ws
  Some (e.0 ∷ [], e.1)

-- a declaration after its first word: the entity, or none
abbrev pub declaration_by : DeclWord → List Word → Option (List EntityClauses × List Word)
declaration_by decls.Entity ws = one_entity_at ws
declaration_by decls.Type ws = type_at ws
declaration_by decls.Function ws = skipped_at (Some (codes "FUNCTION")) (codes "END_FUNCTION") ws
declaration_by decls.Procedure ws = skipped_at (Some (codes "PROCEDURE")) (codes "END_PROCEDURE") ws
declaration_by decls.Rule ws = skipped_at None (codes "END_RULE") ws
declaration_by decls.Constant ws = skipped_at None (codes "END_CONSTANT") ws
declaration_by decls.Unsupported ws = None
declaration_by decls.Unknown ws = None

unfoldable pub declaration_at : List Word → Option (List EntityClauses × List Word)
declaration_at ws = do
  n ← name_at ws
  declaration_by (decl_word_of n.0) n.1

-- one list of all
abbrev pub joined : {X : Type 0} → List (List X) → List X
joined [] = []
joined (xs ∷ xss) = xs ++ joined xss

-- ';' and the entities of all declarations
unfoldable pub declarations_at : List Word → Option (List EntityClauses × List Word)
declarations_at ws = do
  body ← symbol_at 59 ws
  ds ← many_at (begins_name (codes "END_SCHEMA")) declaration_at body
  Some (joined ds.0, ds.1)

abbrev pub ended : List Word → List EntityClauses → Option (List EntityClauses)
ended [] es = Some es
ended (w ∷ ws) es = None

-- SCHEMA name ';' { declaration } END_SCHEMA ';'
unfoldable pub entities_at : List Word → Option (List EntityClauses)
entities_at ws = do
  first ← word_at (codes "SCHEMA") ws
  n ← name_at first
  es ← declarations_at n.1
  end ← word_at (codes "END_SCHEMA") es.1
  rest ← symbol_at 59 end
  ended rest es.0

-- what is read of words that reach the end of their text
abbrev pub if_whole : Bool → Option (List EntityClauses) → Option (List EntityClauses)
if_whole true es = es
if_whole false es = None

-- The clauses of the entities of a text, as its words have them.
-- Of each entity, in the order of the text, those of INVERSE and then those of UNIQUE. Other declarations, and what
-- follows WHERE, are skipped.
pub record AreClauses (text : List ℕ) (es : List EntityClauses) : Type 0 where
  pub words : List Word
  pub are_words : AreWords text words
  pub are_clauses : entities_at words ≡ Some es
