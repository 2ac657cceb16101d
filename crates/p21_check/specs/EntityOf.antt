-- What is known of instances by the entities of a schema.
use Rattle.std.specs.Prelude.{◌≡◌, false, List, [], ◌∷◌, Option, Some, None}
use Rattle.std.specs.List.{AllZip}
use mathlib.Core.HLevel.{Unit-prop, ×_prop, ⊥_prop}
use Rattle.std.proofs.Props.{props}
use Rattle.p21_express.specs.Schema.{Schema}
use Rattle.p21_tree.specs.Sentence.{Instance}
use Rattle.p21_tree.specs.Views.{plain_instance}
use Rattle.p21_schema.specs.declared.ids.EntityId.{EntityId}
use Rattle.p21_schema.specs.Place.{entity_name, IsEntityOf}
use Rattle.p21_check.specs.declared.entity_of.Named.{Named}
use Rattle.p21_check.specs.declared.entity_of.Named.TheVariants as known
use Rattle.p21_check.specs.EntitySet.{keywords}

-- The instance is simple, and its one record names this entity of the schema.
pub record IsSimpleOf (s : Schema) (i : Instance) (e : EntityId) : Type 0 where
  pub simple : i.complex ≡ false
  pub known_ : IsEntityOf s e
  pub keyword : keywords i ≡ entity_name s e ∷ []

-- The entity of an instance is that which the one record of a simple instance names. A complex instance has none, nor has one
-- whose keyword names no entity.
abbrev pub IsSimpleEntity : Schema → Instance → Option EntityId → Type 0
IsSimpleEntity s i None = (e : EntityId) → ¬ (IsSimpleOf s i e)
IsSimpleEntity s i (Some e) = IsSimpleOf s i e

-- there is at most one proof of it
pub IsSimpleEntity-prop : (s : Schema) (i : Instance) (own : Option EntityId) → IsProp (IsSimpleEntity s i own)
IsSimpleEntity-prop s i None = hlevel props
IsSimpleEntity-prop s i (Some e) = hlevel props

-- the entities of some instances, one after the other
abbrev pub AreSimpleEntities : Schema → List Instance → List (Option EntityId) → Type 0
AreSimpleEntities s is es = AllZip (IsSimpleEntity s) is es

-- there is at most one proof of it
pub AreSimpleEntities-prop : (s : Schema) (is : List Instance) (es : List (Option EntityId)) → IsProp (AreSimpleEntities s is es)
AreSimpleEntities-prop s [] [] = Unit-prop
AreSimpleEntities-prop s [] (e ∷ es) = ⊥_prop
AreSimpleEntities-prop s (i ∷ is) [] = ⊥_prop
AreSimpleEntities-prop s (i ∷ is) (e ∷ es) = ×_prop (IsSimpleEntity-prop s i e) (AreSimpleEntities-prop s is es)

-- `Missing`: there is no instance. `Simple`: it is a simple one of this entity. `Other`: it is the one given, and has no entity.
abbrev pub IsKnownAs : Schema → Option Instance → Named → Type 0
IsKnownAs s found known.Missing = found ≡ None
IsKnownAs s found (known.Simple e) = (i : Instance) × (found ≡ Some i) × IsSimpleOf s i e
IsKnownAs s found (known.Other r) = (found ≡ Some (plain_instance r.now)) × IsSimpleEntity s (plain_instance r.now) None
