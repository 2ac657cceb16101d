-- What the clauses of a schema's entities state.
use Rattle.std.specs.Prelude.{◌≡◌, ◌≢◌, ℕ, suc, List, [], ◌∷◌, ◌++◌, map, decimal, Option, Some, None, IfSome, Vec}
use Rattle.std.specs.List.{AllZip}
use Rattle.std.specs.declared.alloc.Global.{Global}
use Rattle.p21_express.specs.Grammar.{Naming}
use Rattle.p21_express.specs.Schema.{Schema}
use Rattle.p21_schema.specs.Place.{entity_name, IsEntityOf}
use Rattle.p21_schema.specs.Row.{attribute_at}
use Rattle.p21_schema.specs.declared.ids.AttrId.{AttrId}
use Rattle.p21_schema.specs.declared.ids.EntityId.{EntityId}
use Rattle.p21_rules.specs.declared.rule.InverseRule.{InverseRule}
use Rattle.p21_rules.specs.declared.rule.UniqueRule.{UniqueRule}
use Rattle.p21_rule_text.specs.Bounds.{any}
use Rattle.p21_rule_text.specs.Clauses.{InverseClause, UniqueClause}
use Rattle.p21_rule_text.specs.Entities.{EntityClauses, joined}
use Rattle.p21_rule_text.specs.Resolve.{AreDerivers, IsInverseOfAncestor, IsMeant}
use Rattle.p21_rule_text.specs.declared.bounds.Bounds.{Bounds}
use Rattle.p21_rule_text.specs.declared.resolve.Found.{Found}
use Rattle.p21_rule_text.specs.declared.resolve.Found.TheVariants as found
use Rattle.p21_rule_text.specs.declared.statements.PassedOver.{PassedOver}
use Rattle.p21_rule_text.specs.declared.statements.RuleKind.TheVariants as kind
use Rattle.p21_rule_text.specs.declared.statements.Statement.{Statement}
use Rattle.p21_rule_text.specs.declared.statements.Statement.TheVariants as statement

-- ---- clauses

-- a clause of the entity of this name; a rule UNIQUE has its number there
pub data Clause : Type 0 where
  inverse : List ℕ → InverseClause → Clause
  unique : List ℕ → ℕ → UniqueClause → Clause

-- rules UNIQUE of an entity, from this number on
abbrev pub numbered : List ℕ → ℕ → List UniqueClause → List Clause
numbered e n [] = []
numbered e n (c ∷ cs) = unique e n c ∷ numbered e (suc n) cs

-- the clauses of an entity, in order; its rules UNIQUE are numbered from 1
abbrev pub clauses_of : EntityClauses → List Clause
clauses_of e = map (inverse e.name) e.inverse ++ numbered e.name 1 e.unique

-- ---- names

-- the entity of the schema that has this name
pub record IsNamed (s : Schema) (n : List ℕ) (e : EntityId) : Type 0 where
  pub known : IsEntityOf s e
  pub name : entity_name s e ≡ n

-- each name is this explicit attribute
abbrev pub AreExplicit : Schema → List EntityClauses → EntityId → List Naming → List AttrId → Type 0
AreExplicit s es e names ids = AllZip (IsMeant s es e) names (map found.Explicit ids)

-- the first of the names that is no explicit attribute, and what it is
pub record IsFirst (s : Schema) (es : List EntityClauses) (e : EntityId) (names : List Naming) (f : Found) (n : List ℕ) : Type 0 where
  pub front : List Naming
  pub ids : List AttrId
  pub explicit : AreExplicit s es e front ids
  pub first : Naming
  pub is_meant : IsMeant s es e first f
  pub name : n ≡ first.name
  pub behind : List Naming
  pub names_are : names ≡ front ++ first ∷ behind

-- ---- UNIQUE

-- the label of a rule, or its number
abbrev pub label_of : ℕ → Option (List ℕ) → List ℕ
label_of n None = decimal n
label_of n (Some label) = label

-- A rule is looked at where each of its names is an explicit attribute.
pub record IsUniqueRule (s : Schema) (es : List EntityClauses) (e : List ℕ) (c : UniqueClause) (r : UniqueRule) : Type 0 where
  pub entity : IsNamed s e r.entity
  pub attributes : AreExplicit s es r.entity c.names r.attributes.items

-- It is skipped where the first that is none is a derived or inverse attribute.
pub record IsUniquePassed (s : Schema) (es : List EntityClauses) (e : List ℕ) (n : ℕ) (c : UniqueClause) (p : PassedOver) : Type 0 where
  pub kind : p.kind ≡ kind.Unique
  pub entity : IsNamed s e p.entity
  pub label : p.label.items ≡ label_of n c.label
  pub attribute : IsFirst s es p.entity c.names found.Other p.attribute.items
  pub subtype : p.subtype.items ≡ []

-- In the instances of an entity, below its own or beside it, that derives one of its attributes it is skipped too.
pub record IsUniquePassedElsewhere (s : Schema) (r : UniqueRule) (n : List ℕ) (a : AttrId) (o : EntityId) (p : PassedOver) : Type 0 where
  pub kind : p.kind ≡ kind.Unique
  pub entity : p.entity ≡ r.entity
  pub label : p.label.items ≡ n
  pub attribute : p.attribute.items ≡ (attribute_at s a).name
  pub subtype : p.subtype.items ≡ entity_name s o

-- so it is told of each of these entities
abbrev pub AreToldOf : Schema → UniqueRule → List ℕ → AttrId → List PassedOver → Type 0
AreToldOf s r label a ps = (os : List EntityId) × AreDerivers s r.entity (attribute_at s a) os × AllZip (IsUniquePassedElsewhere s r label a) os ps

-- and of each of the attributes
abbrev pub AreTold : Schema → UniqueRule → List ℕ → List AttrId → List PassedOver → Type 0
AreTold s r label ids all = (pss : List (List PassedOver)) × AllZip (AreToldOf s r label) ids pss × (all ≡ joined pss)

-- ---- INVERSE

-- what is declared again is an INVERSE attribute of an ancestor
abbrev pub IsDeclarable : Schema → List EntityClauses → EntityId → Naming → Type 0
IsDeclarable s es e x = IfSome x.of (λ of. IsInverseOfAncestor s es e of x.name)

-- the bounds of a rule
abbrev pub bounds_of_rule : InverseRule → Bounds
bounds_of_rule r = record { is_bag = r.is_bag; low = r.low; high = r.high }

-- Bounds are numbers, and the attribute by which the other entity refers is explicit.
pub record IsInverseRule (s : Schema) (es : List EntityClauses) (e : List ℕ) (c : InverseClause) (r : InverseRule) : Type 0 where
  pub entity : IsNamed s e r.entity
  pub declarable : IsDeclarable s es r.entity c.name
  pub bounds : c.bounds ≡ Some (bounds_of_rule r)
  pub source : IsNamed s c.source r.source
  pub attribute : IsMeant s es r.source c.attribute (found.Explicit r.attribute)

-- Such bounds are looked at where not every count is within them, and no entity but the other one and its ancestors derives the attribute.
pub record IsCounted (s : Schema) (r : InverseRule) : Type 0 where
  pub bounds : bounds_of_rule r ≢ any r.is_bag
  pub derivers : AreDerivers s r.source (attribute_at s r.attribute) []

-- Why bounds are skipped: they are no numbers; the attribute is a derived or inverse one; or of the entities, but the other one and its ancestors,
-- that derive it this is the first.
pub data IsUncounted (s : Schema) (source : EntityId) (n : List ℕ) : Option Bounds → Found → (attribute subtype : List ℕ) → Type 0 where
  no_numbers : {f : Found} → f ≢ found.Nothing → IsUncounted s source n None f [] []
  other : {b : Bounds} → IsUncounted s source n (Some b) found.Other n []
  derived_elsewhere : {b : Bounds} {a : AttrId} {o : EntityId} {os : List EntityId} → b ≢ any b.is_bag → AreDerivers s source (attribute_at s a) (o ∷ os) → IsUncounted s source n (Some b) (found.Explicit a) n (entity_name s o)

pub record IsInversePassed (s : Schema) (es : List EntityClauses) (e : List ℕ) (c : InverseClause) (p : PassedOver) : Type 0 where
  pub kind : p.kind ≡ kind.Inverse
  pub entity : IsNamed s e p.entity
  pub label : p.label.items ≡ c.name.name
  pub declarable : IsDeclarable s es p.entity c.name
  pub source : EntityId
  pub is_source : IsNamed s c.source source
  pub found : Found
  pub is_meant : IsMeant s es source c.attribute found
  pub uncounted : IsUncounted s source c.attribute.name c.bounds found p.attribute.items p.subtype.items

-- what an INVERSE attribute states FOR an explicit attribute, by its bounds and by who derives the attribute
pub data IsStatementOf (s : Schema) (c : InverseClause) (r : InverseRule) : Statement → Type 0 where
  looked_at : {name : Vec ℕ Global} → IsCounted s r → name.items ≡ c.name.name → IsStatementOf s c r (statement.Inverse r name)
  within : bounds_of_rule r ≡ any r.is_bag → IsStatementOf s c r statement.AnyCount
  below : {o : EntityId} {os : List EntityId} (p : PassedOver) → bounds_of_rule r ≢ any r.is_bag → AreDerivers s r.source (attribute_at s r.attribute) (o ∷ os) → p.kind ≡ kind.Inverse → p.entity ≡ r.entity → p.label.items ≡ c.name.name → p.attribute.items ≡ c.attribute.name → p.subtype.items ≡ entity_name s o → IsStatementOf s c r (statement.PassedOver p)

-- ---- all

-- What a clause states: a rule with its label or name, and where else it is skipped; nothing, where every count is within its bounds; or that it is passed
-- over.
-- It is skipped for an attribute that is not explicit, or for bounds that are no numbers; a rule UNIQUE in the
-- instances of each other entity that derives one of its attributes, and an INVERSE attribute if some other entity
-- derives its one.
pub data States (s : Schema) (es : List EntityClauses) : Clause → Statement → Type 0 where
  unique_rule : {e : List ℕ} {n : ℕ} {c : UniqueClause} {r : UniqueRule} {label : Vec ℕ Global} {told : Vec PassedOver Global} → IsUniqueRule s es e c r → label.items ≡ label_of n c.label → AreTold s r label.items r.attributes.items told.items → States s es (unique e n c) (statement.Unique r label told)
  unique_passed : {e : List ℕ} {n : ℕ} {c : UniqueClause} {p : PassedOver} → IsUniquePassed s es e n c p → States s es (unique e n c) (statement.PassedOver p)
  inverse_rule : {e : List ℕ} {c : InverseClause} {r : InverseRule} {name : Vec ℕ Global} → IsInverseRule s es e c r → IsCounted s r → name.items ≡ c.name.name → States s es (inverse e c) (statement.Inverse r name)
  any_count : {e : List ℕ} {c : InverseClause} {r : InverseRule} → IsInverseRule s es e c r → bounds_of_rule r ≡ any r.is_bag → States s es (inverse e c) statement.AnyCount
  inverse_passed : {e : List ℕ} {c : InverseClause} {p : PassedOver} → IsInversePassed s es e c p → States s es (inverse e c) (statement.PassedOver p)

-- Nothing is stated by a clause with the name of what is no such entity or attribute.
abbrev pub IsUnstated : Schema → List EntityClauses → Clause → Type 0
IsUnstated s es c = (t : Statement) → ¬ (States s es c t)
