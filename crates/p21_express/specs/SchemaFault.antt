-- The fault for which a schema's text is refused.
use Rattle.std.specs.Prelude.{ℕ, List, ◌≤◌, ◌⊎◌, length}
use Rattle.std.specs.List.{AllByRecursion}
use Rattle.p21_express.specs.declared.error.SchemaError.{SchemaError}
use Rattle.p21_express.specs.declared.error.SchemaError.TheVariants as errors
use Rattle.p21_express.specs.Schema.{Schema, Expr, Underlying, items, select, plain, named}
use Rattle.p21_express.specs.WellFormed.{IsEntity, IsType, IsSelect, IsKnown, HasNoRepeated, HasNoUnknown, HasNoCycles, IsRedeclaring}
use Rattle.p21_express.specs.Answer.{IsForm, HasNoForm}

-- ---- what is known of names, apart from SELECTs that stand alone

-- what stands alone under a TYPE is no entity
abbrev pub IsNoEntityAlone : Schema → Expr → Type 0
IsNoEntityAlone s (named n) = ¬ (IsEntity s n)
IsNoEntityAlone s _ = Unit {0}

abbrev pub AreKnownUnder : Schema → Underlying → Type 0
AreKnownUnder s (items ns) = Unit {0}
AreKnownUnder s (select ns) = AllByRecursion (λ n. IsEntity s n ⊎ IsType s n) ns
AreKnownUnder s (plain e) = IsKnown s e × IsNoEntityAlone s e

-- each name that is used is declared: in SUBTYPE OF as an entity, alone under a TYPE as a type, elsewhere as either
pub record AreNamesKnown (s : Schema) : Type 0 where
  pub supertypes : AllByRecursion (λ e. AllByRecursion (IsEntity s) e.supertypes) s.entities
  pub attributes : AllByRecursion (λ e. AllByRecursion (λ a. IsKnown s a.texpr) e.attributes) s.entities
  pub types : AllByRecursion (λ t. AreKnownUnder s t.under) s.types

-- what stands alone under a TYPE is no SELECT
abbrev pub IsNoSelectAlone : Schema → Expr → Type 0
IsNoSelectAlone s (named n) = ¬ (IsSelect s n)
IsNoSelectAlone s _ = Unit {0}

abbrev pub IsNoLoneSelect : Schema → Underlying → Type 0
IsNoLoneSelect s (items ns) = Unit {0}
IsNoLoneSelect s (select ns) = Unit {0}
IsNoLoneSelect s (plain e) = IsNoSelectAlone s e

-- under no TYPE a SELECT stands alone
abbrev pub HasNoLoneSelect : Schema → Type 0
HasNoLoneSelect s = AllByRecursion (λ t. IsNoLoneSelect s t.under) s.types

-- ---- faults

-- by the grammar the text has declarations of which this holds
abbrev pub HasFormOf : List ℕ → (Schema → Type 0) → Type 0
HasFormOf text P = (s : Schema) × IsForm text s × P s

-- The declarations fail one condition, and meet those before it.
abbrev pub FailsRepeated : Schema → Type 0
FailsRepeated s = ¬ (HasNoRepeated s)

abbrev pub FailsNames : Schema → Type 0
FailsNames s = HasNoRepeated s × ¬ (AreNamesKnown s)

abbrev pub FailsSelects : Schema → Type 0
FailsSelects s = HasNoRepeated s × ¬ (HasNoLoneSelect s)

abbrev pub FailsCycles : Schema → Type 0
FailsCycles s = HasNoRepeated s × HasNoUnknown s × ¬ (HasNoCycles s)

abbrev pub FailsRedeclared : Schema → Type 0
FailsRedeclared s = HasNoRepeated s × HasNoUnknown s × HasNoCycles s × ¬ (AllByRecursion (IsRedeclaring s) s.entities)

-- The fault is of the first condition that the text fails, and stands within the text. Want of memory says nothing.
-- Words that are no schema are Syntax or NotSupported; of those that are one, the kind is Repeated, then UnknownName
-- or NotSupported (a SELECT alone under a TYPE), then Cycle, then BadRedeclaration.
abbrev pub IsSchemaFault : List ℕ → SchemaError → Type 0
IsSchemaFault text (errors.Syntax at) = HasNoForm text × (at ≤ length text)
IsSchemaFault text (errors.NotSupported at) = (HasNoForm text ⊎ HasFormOf text FailsSelects) × (at ≤ length text)
IsSchemaFault text (errors.Repeated at) = HasFormOf text FailsRepeated × (at ≤ length text)
IsSchemaFault text (errors.UnknownName at) = HasFormOf text FailsNames × (at ≤ length text)
IsSchemaFault text (errors.Cycle at) = HasFormOf text FailsCycles × (at ≤ length text)
IsSchemaFault text (errors.BadRedeclaration at) = HasFormOf text FailsRedeclared × (at ≤ length text)
IsSchemaFault text errors.Memory = Unit {0}
