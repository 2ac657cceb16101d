-- Where a value stands, and whether the item of an enumeration there is one of BOOLEAN or LOGICAL.
use Rattle.std.specs.Prelude.{◌≡◌, ◌⊎◌, ℕ, List}
use Rattle.p21_express.specs.Schema.{Schema, named}
use Rattle.p21_express.specs.WellFormed.{IsIn, IsAncestor, IsEntity, Origin}
use Rattle.p21_tree.specs.Sentence.{Instance}
use Rattle.p21_schema.specs.Declaration.{AreDeclarations, Declaration, Form}
use Rattle.p21_schema.specs.Declaration as form
use Rattle.p21_check.specs.EntitySet.{keywords}
use Rattle.p21_check.specs.Sets.{AnyIn, IsAgainBelow}
use Rattle.p21_json.specs.Logical.{TakesLogical}

-- in the header, for an attribute of an instance, or in a typed parameter of this type
pub data Where : Type 0 where
  header : Where
  attribute : Instance → Origin → Where
  typed : List ℕ → Where

abbrev pub FormTakesLogical : Schema → Form → Type 0
FormTakesLogical s form.derived = ⊥
FormTakesLogical s (form.explicit optional e) = TakesLogical s e

-- the name is an entity's, which is the entity or has it as an ancestor
abbrev pub IsBelow : Schema → List ℕ → List ℕ → Type 0
IsBelow s k n = IsEntity s k × ((k ≡ n) ⊎ IsAncestor s k n)

-- a record of the instance names the entity, or one below it
pub record IsOf (s : Schema) (i : Instance) (n : List ℕ) : Type 0 where
  pub keyword : List ℕ
  pub written : IsIn (keywords i) keyword
  pub below : IsBelow s keyword n

-- one of the declarations is by an entity below this one that the instance is of
abbrev pub IsDeclaredBelow : Schema → Instance → List Declaration → List ℕ → Type 0
IsDeclaredBelow s i ds n = AnyIn ds (IsAgainBelow s (IsOf s i) n)

-- an entity that the instance is of declares as BOOLEAN or LOGICAL, or as aggregates of such, and none below it declares again
abbrev pub DeclaresLogical : Schema → Instance → List Declaration → Declaration → Type 0
DeclaresLogical s i ds d = IsOf s i d.entity × FormTakesLogical s d.form × ¬ (IsDeclaredBelow s i ds d.entity)

-- one of the declarations of the attribute is such
pub record IsLogicalAttribute (s : Schema) (i : Instance) (o : Origin) : Type 0 where
  pub all : List Declaration
  pub are : AreDeclarations s o all
  pub declaration : Declaration
  pub among : IsIn all declaration
  pub declares : DeclaresLogical s i all declaration

-- An entity that the instance is of declares the attribute so, and none below it that the instance is of declares it
-- again.
abbrev pub IsLogicalAt : Schema → Where → Type 0
IsLogicalAt s header = ⊥
IsLogicalAt s (attribute i o) = IsLogicalAttribute s i o
IsLogicalAt s (typed k) = TakesLogical s (named k)
