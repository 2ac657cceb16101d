-- What the names of attributes in the clauses of an entity are.
use Rattle.std.specs.Prelude.{◌≡◌, ◌<◌, ◌⊎◌, ℕ, true, List, [], map, get_or, Option, Some, None}
use Rattle.std.specs.List.{AllByRecursion}
use Rattle.p21_express.specs.Grammar.{Naming}
use Rattle.p21_express.specs.Schema.{Schema, Derived}
use Rattle.p21_express.specs.WellFormed.{IsAncestor, IsIn, Origin, new_explicit}
use Rattle.p21_schema.specs.Ancestry.{IsA}
use Rattle.p21_schema.specs.Declaration.{AreDeclarations, Chosen, Declaration, is_explicit}
use Rattle.p21_schema.specs.Declaration as form
use Rattle.p21_schema.specs.Place.{entity_at, entity_name, IsEntityOf}
use Rattle.p21_schema.specs.Row.{attribute_at, IsAttributeOf}
use Rattle.p21_schema.specs.declared.ids.AttrId.{AttrId}
use Rattle.p21_schema.specs.declared.ids.EntityId.{EntityId}
use Rattle.p21_rule_text.specs.Clauses.{InverseClause}
use Rattle.p21_rule_text.specs.Entities.{EntityClauses}
use Rattle.p21_rule_text.specs.declared.resolve.Found.{Found}
use Rattle.p21_rule_text.specs.declared.resolve.Found.TheVariants as found

-- the entity itself or an ancestor
pub record IsOwner (s : Schema) (e o : EntityId) : Type 0 where
  pub known : IsEntityOf s o
  pub above : IsA s e o

-- ---- what an entity declares

-- it newly declares an explicit attribute of this name
abbrev pub DeclaresExplicit : Schema → EntityId → List ℕ → Type 0
DeclaresExplicit s o n = IsIn (new_explicit (entity_at s o).attributes) n

-- it newly declares one in DERIVE
abbrev pub DeclaresDerived : Schema → EntityId → List ℕ → Type 0
DeclaresDerived s o n = (d : Derived) × (IsIn (entity_at s o).derived d × ((d.of ≡ None) × (d.name ≡ n)))

-- it declares one in DERIVE, newly or again
abbrev pub HasDerived : Schema → EntityId → List ℕ → Type 0
HasDerived s o n = (d : Derived) × (IsIn (entity_at s o).derived d × (d.name ≡ n))

abbrev pub no_clauses : EntityClauses
no_clauses = record { name = []; inverse = []; unique = [] }

-- the clauses of an entity, which are those at its place in the text
abbrev pub clauses_at : List EntityClauses → EntityId → EntityClauses
clauses_at es o = get_or es o.index no_clauses

-- it newly declares an INVERSE attribute of this name
abbrev pub DeclaresInverse : List EntityClauses → EntityId → List ℕ → Type 0
DeclaresInverse es o n = (i : InverseClause) × (IsIn (clauses_at es o).inverse i × ((i.name.of ≡ None) × (i.name.name ≡ n)))

-- it declares an INVERSE attribute of this name, newly or again
abbrev pub HasInverse : List EntityClauses → EntityId → List ℕ → Type 0
HasInverse es o n = (i : InverseClause) × (IsIn (clauses_at es o).inverse i × (i.name.name ≡ n))

-- it declares one in DERIVE or INVERSE, newly or again
abbrev pub HasOther : Schema → List EntityClauses → EntityId → List ℕ → Type 0
HasOther s es o n = HasDerived s o n ⊎ HasInverse es o n

-- it newly declares an attribute of this name
abbrev pub DeclaresNew : Schema → List EntityClauses → EntityId → List ℕ → Type 0
DeclaresNew s es o n = DeclaresExplicit s o n ⊎ (DeclaresDerived s o n ⊎ DeclaresInverse es o n)

-- the ancestor of this name declares an INVERSE attribute
pub record IsInverseOfAncestor (s : Schema) (es : List EntityClauses) (e : EntityId) (of n : List ℕ) : Type 0 where
  pub owner : EntityId
  pub known : IsEntityOf s owner
  pub name : entity_name s owner ≡ of
  pub ancestor : IsAncestor s (entity_name s e) (entity_name s owner)
  pub inverse : HasInverse es owner n

-- the explicit attribute that an entity newly declares by this name
abbrev pub IsOwn : Schema → EntityId → List ℕ → AttrId → Type 0
IsOwn s o n a = IsAttributeOf s a × (attribute_at s a ≡ record { entity = entity_name s o; name = n })

-- a declaration of the explicit attribute is such
pub record HasDeclaration (s : Schema) (a : Origin) (P : Declaration → Type 0) : Type 0 where
  pub declarations : List Declaration
  pub are : AreDeclarations s a declarations
  pub declaration : Declaration
  pub there : IsIn declarations declaration
  pub is : P declaration

-- an entity has an explicit declaration of the attribute
abbrev pub IsDeclaredIn : Schema → EntityId → Origin → Type 0
IsDeclaredIn s o a = HasDeclaration s a (λ d. (d.entity ≡ entity_name s o) × (is_explicit d.form ≡ true))

-- the explicit attribute of this name that an entity declares again: of several that of the first entity in the text which newly declares it
pub record IsAgain (s : Schema) (o : EntityId) (n : List ℕ) (a : AttrId) : Type 0 where
  pub origin : EntityId
  pub above : IsOwner s o origin
  pub own : IsOwn s origin n a
  pub again : IsDeclaredIn s o (attribute_at s a)
  pub first : (other : EntityId) (b : AttrId) → IsOwner s o other → other.index < origin.index → IsOwn s other n b → ¬ (IsDeclaredIn s o (attribute_at s b))

-- ---- derived attributes

-- the declaration is in DERIVE, and by the entity or an ancestor
abbrev pub DerivesAbove : Schema → EntityId → Declaration → Type 0
DerivesAbove s e d = (d.form ≡ form.derived) × ((entity_name s e ≡ d.entity) ⊎ IsAncestor s (entity_name s e) d.entity)

-- the entity or an ancestor declares the explicit attribute again in DERIVE
abbrev pub IsDerivedAbove : Schema → EntityId → Origin → Type 0
IsDerivedAbove s e a = HasDeclaration s a (DerivesAbove s e)

-- the declaration is in DERIVE, and by an entity that is neither this one nor an ancestor: a subtype of it, or one beside it in a complex instance
abbrev pub DerivesElsewhere : Schema → EntityId → Declaration → Type 0
DerivesElsewhere s e d = (d.form ≡ form.derived) × ¬ ((entity_name s e ≡ d.entity) ⊎ IsAncestor s (entity_name s e) d.entity)

-- the entities, other than this one and its ancestors, that declare the explicit attribute again in DERIVE, in the order of the text
-- The entities, other than this one and its ancestors, that redeclare the attribute in DERIVE, in the order of the
-- text.
pub record AreDerivers (s : Schema) (e : EntityId) (a : Origin) (ds : List EntityId) : Type 0 where
  pub declarations : List Declaration
  pub are : AreDeclarations s a declarations
  pub chosen : Chosen (DerivesElsewhere s e) (λ d. d.entity) declarations (map (entity_name s) ds)
  pub known : AllByRecursion (IsEntityOf s) ds

-- ---- names

-- what an explicit attribute is in the clauses of an entity
pub data IsAttribute (s : Schema) (e : EntityId) (a : AttrId) : Found → Type 0 where
  not_derived : ¬ (IsDerivedAbove s e (attribute_at s a)) → IsAttribute s e a (found.Explicit a)
  is_derived : IsDerivedAbove s e (attribute_at s a) → IsAttribute s e a found.Other

-- What a name is among the attributes that an entity declares: an explicit one that it newly declares, or else one that it newly declares in DERIVE or
-- INVERSE, or else an explicit one that it declares again, or else one that it declares again in DERIVE or INVERSE.
pub data IsAmong (s : Schema) (es : List EntityClauses) (e o : EntityId) (n : List ℕ) : Found → Type 0 where
  own : {a : AttrId} {f : Found} → IsOwn s o n a → IsAttribute s e a f → IsAmong s es e o n f
  new : ¬ (DeclaresExplicit s o n) → DeclaresNew s es o n → IsAmong s es e o n found.Other
  again : {a : AttrId} {f : Found} → ¬ (DeclaresNew s es o n) → IsAgain s o n a → IsAttribute s e a f → IsAmong s es e o n f
  again_other : ¬ (DeclaresNew s es o n) → ((a : AttrId) → ¬ (IsAgain s o n a)) → HasOther s es o n → IsAmong s es e o n found.Other
  nothing : ¬ (DeclaresNew s es o n) → ((a : AttrId) → ¬ (IsAgain s o n a)) → ¬ (HasOther s es o n) → IsAmong s es e o n found.Nothing

-- the entity or an ancestor, below another one, newly declares the name
pub record IsLower (s : Schema) (es : List EntityClauses) (e : EntityId) (n : List ℕ) (o other : EntityId) : Type 0 where
  pub owner : IsOwner s e other
  pub declares : DeclaresNew s es other n
  pub below : IsAncestor s (entity_name s other) (entity_name s o)

-- the entity or an ancestor newly declares the name, and none does below that one
pub record IsLowest (s : Schema) (es : List EntityClauses) (e : EntityId) (n : List ℕ) (o : EntityId) : Type 0 where
  pub owner : IsOwner s e o
  pub declares : DeclaresNew s es o n
  pub lowest : (other : EntityId) → ¬ (IsLower s es e n o other)

-- the first such entity of the text
pub record IsFirstLowest (s : Schema) (es : List EntityClauses) (e : EntityId) (n : List ℕ) (o : EntityId) : Type 0 where
  pub lowest : IsLowest s es e n o
  pub first : (other : EntityId) → IsLowest s es e n other → ¬ (other.index < o.index)

-- the entity or ancestor of it that has this name
pub record IsOwnerNamed (s : Schema) (e : EntityId) (of : List ℕ) (o : EntityId) : Type 0 where
  pub owner : IsOwner s e o
  pub name : entity_name s o ≡ of

-- the entity whose attribute a name is: that which stands after SELF, or the first of the lowest that newly declare it
abbrev pub IsDeclarer : Schema → List EntityClauses → EntityId → Option (List ℕ) → List ℕ → EntityId → Type 0
IsDeclarer s es e None n o = IsFirstLowest s es e n o
IsDeclarer s es e (Some of) n o = IsOwnerNamed s e of o

-- What a name is in the clauses of an entity.
-- Among what the owner declares: the explicit attribute that it newly declares; or one of DERIVE or INVERSE; or an
-- explicit one that it redeclares; or one that it redeclares in DERIVE or INVERSE; or nothing. The owner is the entity after
-- SELF; otherwise the first in the text of the entity and its ancestors that newly declare the name and below which
-- none does.
pub data IsMeant (s : Schema) (es : List EntityClauses) (e : EntityId) (x : Naming) : Found → Type 0 where
  by : {o : EntityId} {f : Found} → IsDeclarer s es e x.of x.name o → IsAmong s es e o x.name f → IsMeant s es e x f
  none : ((o : EntityId) → ¬ (IsDeclarer s es e x.of x.name o)) → IsMeant s es e x found.Nothing
