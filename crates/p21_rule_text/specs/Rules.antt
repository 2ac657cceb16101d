-- The rules of a schema's text.
use Rattle.std.specs.Prelude.{◌≡◌, ℕ, List, [], ◌∷◌, Some, Vec, map, take, slice_get}
use Rattle.std.specs.List.{AllByRecursion, AllZip, flat_map}
use Rattle.std.specs.declared.alloc.Global.{Global}
use Rattle.p21_express.specs.Schema.{Entity, Schema}
use Rattle.p21_express.specs.WellFormed.{IsIn}
use Rattle.p21_rules.specs.declared.rule.InverseRule.{InverseRule}
use Rattle.p21_rules.specs.declared.rule.UniqueRule.{UniqueRule}
use Rattle.p21_rule_text.specs.Clauses.{UniqueClause}
use Rattle.p21_rule_text.specs.Entities.{AreClauses, EntityClauses}
use Rattle.p21_rule_text.specs.Statements.{Clause, IsUnstated, States, clauses_of}
use Rattle.p21_rule_text.specs.declared.rules.Rules.{Rules}
use Rattle.p21_rule_text.specs.declared.statements.PassedOver.{PassedOver}
use Rattle.p21_rule_text.specs.declared.statements.Statement.{Statement}
use Rattle.p21_rule_text.specs.declared.statements.Statement.TheVariants as statement

-- the rule UNIQUE of a statement, where it is one
abbrev pub unique_in : Statement → List UniqueRule
unique_in (statement.Unique r label told) = r ∷ []
unique_in _ = []

-- its label
abbrev pub labels_in : Statement → List (Vec ℕ Global)
labels_in (statement.Unique r label told) = label ∷ []
labels_in _ = []

-- the bounds of an INVERSE attribute, where it is one
abbrev pub inverse_in : Statement → List InverseRule
inverse_in (statement.Inverse r name) = r ∷ []
inverse_in _ = []

-- its name
abbrev pub names_in : Statement → List (Vec ℕ Global)
names_in (statement.Inverse r name) = name ∷ []
names_in _ = []

-- what is skipped
abbrev pub passed_in : Statement → List PassedOver
passed_in (statement.Unique r label told) = told.items
passed_in (statement.PassedOver p) = p ∷ []
passed_in _ = []

-- the rules of statements, in their order
pub record AreListed (ss : List Statement) (rules : Rules) : Type 0 where
  pub unique : rules.unique.items ≡ flat_map unique_in ss
  pub labels : rules.labels.items ≡ flat_map labels_in ss
  pub inverse : rules.inverse.items ≡ flat_map inverse_in ss
  pub names : rules.inverse_names.items ≡ flat_map names_in ss
  pub passed_over : rules.passed_over.items ≡ flat_map passed_in ss

-- the rules are what these clauses state
pub record AreStated (s : Schema) (es : List EntityClauses) (cs : List Clause) (rules : Rules) : Type 0 where
  pub statements : List Statement
  pub states : AllZip (States s es) cs statements
  pub listed : AreListed statements rules

-- one of the rules has this label
abbrev pub HasLabel : List UniqueClause → List ℕ → Type 0
HasLabel cs n = (c : UniqueClause) × (IsIn cs c × (c.label ≡ Some n))

-- no rule has the label of one before it
abbrev pub HaveDistinctLabels : List UniqueClause → Type 0
HaveDistinctLabels cs = (k : ℕ) (c : UniqueClause) (n : List ℕ) → slice_get cs k ≡ Some c → c.label ≡ Some n → ¬ (HasLabel (take k cs) n)

-- the clauses are those of these entities, in their order
abbrev pub AreOfEntities : List Entity → List EntityClauses → Type 0
AreOfEntities ds es = map (λ e. e.name) es ≡ map (λ d. d.name) ds

-- The rules of a text, against a schema of the same entities, are what the clauses of its entities state. No entity has two rules of one label.
pub record AreRules (s : Schema) (text : List ℕ) (rules : Rules) : Type 0 where
  pub clauses : List EntityClauses
  pub are_clauses : AreClauses text clauses
  pub entities : AreOfEntities s.entities clauses
  pub distinct : AllByRecursion (λ e. HaveDistinctLabels e.unique) clauses
  pub stated : AreStated s clauses (flat_map clauses_of clauses) rules

-- nothing is stated by one of these clauses
abbrev pub HasUnstated : Schema → List EntityClauses → List Clause → Type 0
HasUnstated s es cs = (c : Clause) × (IsIn cs c × IsUnstated s es c)

-- no rules are those of the text
-- Its words are no entities by the grammar, or not those of the schema, an entity has two rules with one label, or a clause names what is no such
-- entity or attribute.
abbrev pub HasNoRules : Schema → List ℕ → Type 0
HasNoRules s text = (rules : Rules) → ¬ (AreRules s text rules)
