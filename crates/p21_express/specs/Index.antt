-- What each name declares, by its position among the entities or the types.
use Rattle.std.specs.Prelude.{◌≡◌, ℕ, List, Option, Some, None, slice_get}
use Rattle.std.specs.Borrow.{Bor}
use Rattle.std.specs.BTreeMap.{BTreeMap, get}
use Rattle.std.specs.Cmp.Lexicographic.{slice_cmp}
use Rattle.std.specs.Ordering.{nat_cmp}
use Rattle.std.specs.declared.cmp.Ordering.{Ordering}
use Rattle.p21_express.specs.declared.checks.names.Declared.{Declared}
use Rattle.p21_express.specs.declared.checks.names.Declared.TheVariants as found
use Rattle.p21_express.specs.Schema.{Schema, Entity, Defined, Underlying, items, select, plain}
use Rattle.p21_express.specs.WellFormed.{IsEntity, IsType, IsSelectType, AreDistinct, declared_names}

-- the entity at this position has this name
pub record IsEntityAt (s : Schema) (i : ℕ) (n : List ℕ) : Type 0 where
  pub entity : Entity
  pub there : slice_get s.entities i ≡ Some entity
  pub name_is : entity.name ≡ n

-- the type at this position has this name, and is a SELECT
pub record IsSelectAt (s : Schema) (i : ℕ) (n : List ℕ) : Type 0 where
  pub type : Defined
  pub there : slice_get s.types i ≡ Some type
  pub name_is : type.name ≡ n
  pub selects : IsSelectType type.under

-- the type at this position has this name, and is no SELECT
pub record IsTypeAt (s : Schema) (i : ℕ) (n : List ℕ) : Type 0 where
  pub type : Defined
  pub there : slice_get s.types i ≡ Some type
  pub name_is : type.name ≡ n
  pub selects_not : ¬ (IsSelectType type.under)

-- a name declares nothing, or what stands at a position
abbrev pub Declares : Schema → List ℕ → Option Declared → Type 0
Declares s n None = ¬ (IsEntity s n) × ¬ (IsType s n)
Declares s n (Some (found.Entity i)) = IsEntityAt s i n
Declares s n (Some (found.Select i)) = IsSelectAt s i n
Declares s n (Some (found.Type i)) = IsTypeAt s i n

-- the order of the keys of a map by names
abbrev pub key_cmp : Bor (List ℕ) → Bor (List ℕ) → Ordering
key_cmp a b = slice_cmp nat_cmp a.now b.now

-- the map has what each name declares
abbrev pub IsIndex : Schema → BTreeMap (Bor (List ℕ)) Declared → Type 0
IsIndex s index = (n : Bor (List ℕ)) → Declares s n.now (get key_cmp index n)

-- the map has what each name declares, and no name is declared twice
pub record IsExactIndex (s : Schema) (index : BTreeMap (Bor (List ℕ)) Declared) : Type 0 where
  pub index_is : IsIndex s index
  pub distinct : AreDistinct (declared_names s)

-- what a type at a position is
abbrev pub declared_type : Underlying → ℕ → Declared
declared_type (items ns) i = found.Type i
declared_type (select ns) i = found.Select i
declared_type (plain e) i = found.Type i
