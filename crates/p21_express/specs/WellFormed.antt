-- Declarations that fit together.
pub use Rattle.p21_graph.specs.Members.{IsIn, AreDistinct}
pub use Rattle.p21_graph.specs.Graph.{Leads, HasNoCycle}
use Rattle.std.specs.Prelude.{◌≡◌, ℕ, Bool, true, false, List, [], ◌∷◌, ◌++◌, ◌⊎◌, map, Option, Some, None, IfSome}
use Rattle.std.specs.List.{AllByRecursion}
use Rattle.p21_express.specs.Schema.{Schema, Entity, Attribute, Derived, Defined, Underlying, Expr, items, select, plain, integer, number, boolean, logical, real, text, binary, aggregate, named}

-- ---- names

-- a name is new where no entity stands before it
abbrev pub with_new : Option (List ℕ) → List ℕ → List (List ℕ) → List (List ℕ)
with_new None n ns = n ∷ ns
with_new (Some e) n ns = ns

-- the names that some explicit attributes newly declare
abbrev pub new_explicit : List Attribute → List (List ℕ)
new_explicit [] = []
new_explicit (a ∷ others) = with_new a.of a.name (new_explicit others)

-- the names that some attributes of DERIVE newly declare
abbrev pub new_derived : List Derived → List (List ℕ)
new_derived [] = []
new_derived (d ∷ ds) = with_new d.of d.name (new_derived ds)

-- the names that an entity newly declares, explicit or in DERIVE
abbrev pub new_names : Entity → List (List ℕ)
new_names e = new_explicit e.attributes ++ new_derived e.derived

-- the names of entities and of types, which are one space of names
abbrev pub declared_names : Schema → List (List ℕ)
declared_names s = map (λ e. e.name) s.entities ++ map (λ t. t.name) s.types

abbrev pub HasDistinctItems : Underlying → Type 0
HasDistinctItems (items ns) = AreDistinct ns
HasDistinctItems (select ns) = Unit {0}
HasDistinctItems (plain e) = Unit {0}

-- no name is repeated: of an entity or a type, newly declared in one entity, in one SUBTYPE OF, in an enumeration
pub record HasNoRepeated (s : Schema) : Type 0 where
  pub declarations : AreDistinct (declared_names s)
  pub attributes : AllByRecursion (λ e. AreDistinct (new_names e)) s.entities
  pub supertypes : AllByRecursion (λ e. AreDistinct e.supertypes) s.entities
  pub enumerations : AllByRecursion (λ t. HasDistinctItems t.under) s.types

-- ---- names that are used

abbrev pub IsEntity : Schema → List ℕ → Type 0
IsEntity s n = IsIn (map (λ e. e.name) s.entities) n

abbrev pub IsType : Schema → List ℕ → Type 0
IsType s n = IsIn (map (λ t. t.name) s.types) n

abbrev pub IsSelectType : Underlying → Type 0
IsSelectType (items ns) = ⊥
IsSelectType (select ns) = Unit {0}
IsSelectType (plain e) = ⊥

-- a SELECT has this name
pub record IsSelect (s : Schema) (n : List ℕ) : Type 0 where
  pub type : Defined
  pub declared : IsIn s.types type
  pub name_is : type.name ≡ n
  pub selects : IsSelectType type.under

-- the name in a type, below its aggregates
abbrev pub name_in : Expr → Option (List ℕ)
name_in (aggregate a e) = name_in e
name_in (named n) = Some n
name_in integer = None
name_in number = None
name_in boolean = None
name_in logical = None
name_in real = None
name_in (text w) = None
name_in (binary w) = None

-- each name in it is an entity's or a type's
abbrev pub IsKnown : Schema → Expr → Type 0
IsKnown s e = IfSome (name_in e) (λ n. IsEntity s n ⊎ IsType s n)

-- what stands alone under a TYPE is no entity and no SELECT
abbrev pub IsAllowedAlone : Schema → Expr → Type 0
IsAllowedAlone s (named n) = ¬ (IsEntity s n) × ¬ (IsSelect s n)
IsAllowedAlone s _ = Unit {0}

abbrev pub IsKnownUnder : Schema → Underlying → Type 0
IsKnownUnder s (items ns) = Unit {0}
IsKnownUnder s (select ns) = AllByRecursion (λ n. IsEntity s n ⊎ IsType s n) ns
IsKnownUnder s (plain e) = IsKnown s e × IsAllowedAlone s e

-- each name that is used is declared as what it is used for
pub record HasNoUnknown (s : Schema) : Type 0 where
  pub supertypes : AllByRecursion (λ e. AllByRecursion (IsEntity s) e.supertypes) s.entities
  pub attributes : AllByRecursion (λ e. AllByRecursion (λ a. IsKnown s a.texpr) e.attributes) s.entities
  pub types : AllByRecursion (λ t. IsKnownUnder s t.under) s.types

-- ---- cycles

-- b stands in SUBTYPE OF of the entity a
pub record IsSupertype (s : Schema) (a b : List ℕ) : Type 0 where
  pub entity : Entity
  pub declared : IsIn s.entities entity
  pub name_is : entity.name ≡ a
  pub named : IsIn entity.supertypes b

-- The ancestors of an entity are the smallest set that holds its supertypes and theirs.
abbrev pub IsAncestor : Schema → List ℕ → List ℕ → Type 0
IsAncestor s a b = Leads (IsSupertype s) a b

-- the type a stands for the type b: its name is all that stands under a
pub record IsOther (s : Schema) (a b : List ℕ) : Type 0 where
  pub type : Defined
  pub declared : IsIn s.types type
  pub name_is : type.name ≡ a
  pub under : type.under ≡ plain (named b)

-- the SELECT b is an item of the SELECT a
pub record IsInnerSelect (s : Schema) (a b : List ℕ) : Type 0 where
  pub type : Defined
  pub items : List (List ℕ)
  pub declared : IsIn s.types type
  pub name_is : type.name ≡ a
  pub under : type.under ≡ select items
  pub item : IsIn items b
  pub selects : IsSelect s b

-- nothing is its own ancestor, stands for itself, or is an item of itself
pub record HasNoCycles (s : Schema) : Type 0 where
  pub entities : HasNoCycle (IsSupertype s)
  pub types : HasNoCycle (IsOther s)
  pub selects : HasNoCycle (IsInnerSelect s)

-- ---- redeclarations

-- the entity d newly declares an attribute of this name
pub record IsNewIn (s : Schema) (d n : List ℕ) : Type 0 where
  pub entity : Entity
  pub declared : IsIn s.entities entity
  pub name_is : entity.name ≡ d
  pub newly : IsIn (new_names entity) n

-- the entity d newly declares an attribute of this name in DERIVE
pub record IsNewInDerive (s : Schema) (d n : List ℕ) : Type 0 where
  pub entity : Entity
  pub declared : IsIn s.entities entity
  pub name_is : entity.name ≡ d
  pub newly : IsIn (new_derived entity.derived) n

-- an attribute of this name that is newly declared by d, which is the entity o or an ancestor of it
abbrev pub IsOrigin : Schema → List ℕ → List ℕ → List ℕ → Type 0
IsOrigin s o n d = ((o ≡ d) ⊎ IsAncestor s o d) × IsNewIn s d n

-- SELF\of.name, explicit or in DERIVE
pub record Redeclaration : Type 0 where
  pub of : List ℕ
  pub name : List ℕ
  pub explicit : Bool

abbrev pub with_again : Option (List ℕ) → List ℕ → Bool → List Redeclaration → List Redeclaration
with_again None n explicit rs = rs
with_again (Some o) n explicit rs = record { of = o; name = n; explicit = explicit } ∷ rs

abbrev pub again_explicit : List Attribute → List Redeclaration
again_explicit [] = []
again_explicit (a ∷ others) = with_again a.of a.name true (again_explicit others)

abbrev pub again_derived : List Derived → List Redeclaration
again_derived [] = []
again_derived (d ∷ ds) = with_again d.of d.name false (again_derived ds)

-- the redeclarations of an entity
abbrev pub redeclarations : Entity → List Redeclaration
redeclarations e = again_explicit e.attributes ++ again_derived e.derived

-- The attribute that an entity declares again: the one that is newly declared under that name in the ancestor
-- after SELF and in its ancestors. In DERIVE any may be declared again, explicitly none of DERIVE.
pub record DeclaresAgain (s : Schema) (entity : List ℕ) (r : Redeclaration) (d : List ℕ) : Type 0 where
  pub ancestor : IsAncestor s entity r.of
  pub origin : IsOrigin s r.of r.name d
  pub only : (other : List ℕ) → IsOrigin s r.of r.name other → other ≡ d
  pub allowed : r.explicit ≡ true → ¬ (IsNewInDerive s d r.name)

-- an attribute by the entity that newly declares it, and its name
pub record Origin : Type 0 where
  pub entity : List ℕ
  pub name : List ℕ

-- the attributes that some redeclarations of an entity declare again
pub data DeclareAgain (s : Schema) (entity : List ℕ) : List Redeclaration → List Origin → Type 0 where
  none : DeclareAgain s entity [] []
  more : {r : Redeclaration} {rs : List Redeclaration} {d : List ℕ} {os : List Origin} → DeclaresAgain s entity r d → DeclareAgain s entity rs os → DeclareAgain s entity (r ∷ rs) (record { entity = d; name = r.name } ∷ os)

-- each redeclaration of an entity declares an attribute again, and no two the same
pub record IsRedeclaring (s : Schema) (e : Entity) : Type 0 where
  pub origins : List Origin
  pub declare : DeclareAgain s e.name (redeclarations e) origins
  pub distinct : AreDistinct origins

-- ---- all

pub record IsWellFormed (s : Schema) : Type 0 where
  pub repeated : HasNoRepeated s
  pub unknown : HasNoUnknown s
  pub cycles : HasNoCycles s
  pub redeclared : AllByRecursion (IsRedeclaring s) s.entities
