-- What entities declare again, by the positions of the entities.
use Rattle.std.specs.Prelude.{◌≡◌, ℕ, Bool, List, Some, MatchOption, slice_get}
use Rattle.std.specs.Borrow.{Bor}
use Rattle.std.specs.BTreeMap.{BTreeMap, get}
use Rattle.std.specs.Ordering.{ordering_then, nat_cmp}
use Rattle.std.specs.declared.cmp.Ordering.{Ordering}
use Rattle.p21_express.specs.declared.checks.redeclared.Again as source
use Rattle.p21_express.specs.Index.{IsEntityAt, key_cmp}
use Rattle.p21_express.specs.Schema.{Schema, Entity}
use Rattle.p21_express.specs.WellFormed.{IsIn, Redeclaration, Origin, AreDistinct, DeclareAgain, DeclaresAgain, new_names, new_derived}

abbrev pub plain_again : source.Again → Redeclaration
plain_again a = record { of = a.of.now; name = a.name.now; explicit = a.explicit }

-- an attribute by the names of the entity that newly declares it and of its own
abbrev pub origin_in : List ℕ → List ℕ → Origin
origin_in e n = record { entity = e; name = n }

-- the entity at this position newly declares the name
pub record IsNewAt (s : Schema) (n : List ℕ) (i : ℕ) : Type 0 where
  pub entity : Entity
  pub there : slice_get s.entities i ≡ Some entity
  pub newly : IsIn (new_names entity) n

-- the entity at this position newly declares the name in DERIVE
pub record IsDerivedAt (s : Schema) (n : List ℕ) (i : ℕ) : Type 0 where
  pub entity : Entity
  pub there : slice_get s.entities i ≡ Some entity
  pub newly : IsIn (new_derived entity.derived) n

-- an entity declares an attribute again that the entity at this position newly declares
pub record IsAgainAt (s : Schema) (entity : List ℕ) (r : Redeclaration) (i : ℕ) : Type 0 where
  pub name : List ℕ
  pub at : IsEntityAt s i name
  pub again : DeclaresAgain s entity r name

-- some redeclarations of an entity declare these attributes again, and no two the same
pub record Origins (s : Schema) (entity : List ℕ) (rs : List Redeclaration) (os : List Origin) : Type 0 where
  pub declare : DeclareAgain s entity rs os
  pub distinct : AreDistinct os

-- the order of attributes, by the position of the entity and the name of the attribute
abbrev pub origin_cmp : ℕ × Bor (List ℕ) → ℕ × Bor (List ℕ) → Ordering
origin_cmp a b = ordering_then (nat_cmp a.0 b.0) (key_cmp a.1 b.1)

-- the map has these attributes, by the positions of their entities
abbrev pub HasOrigins : Schema → BTreeMap (ℕ × Bor (List ℕ)) Bool → List Origin → Type 0
HasOrigins s origins os = (a : ℕ × Bor (List ℕ)) (e : List ℕ) → IsEntityAt s a.0 e → MatchOption (get origin_cmp origins a) (¬ (IsIn os (origin_in e a.1.now))) (λ again. IsIn os (origin_in e a.1.now))
