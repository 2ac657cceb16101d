-- The graphs of supertypes and of types, by the positions of declarations.
use Rattle.std.specs.Prelude.{◌≡◌, ℕ, List, [], ◌⊎◌, ◌↔◌, Option, Some, None, slice_get}
use Rattle.std.specs.List.{AllZip}
use Rattle.std.specs.Option.{option_to_list}
use Rattle.p21_express.specs.Checks.{lone_name}
use Rattle.p21_express.specs.Schema.{Schema, Defined, Underlying, items, select, plain}
use Rattle.p21_express.specs.WellFormed.{IsIn, IsOther, IsInnerSelect}
use Rattle.p21_express.specs.Index.{IsEntityAt, IsSelectAt, IsTypeAt}

-- the positions are those at which one of the names stands
abbrev pub ArePositions : (ℕ → List ℕ → Type 0) → List (List ℕ) → List ℕ → Type 0
ArePositions At names positions = (j : ℕ) → IsIn positions j ↔ ((n : List ℕ) × IsIn names n × At j n)

-- the one position at which the name stands, if there is one
abbrev pub IsPosition : (ℕ → List ℕ → Type 0) → List ℕ → Option ℕ → Type 0
IsPosition At n None = (j : ℕ) → ¬ (At j n)
IsPosition At n (Some i) = At i n × ((j : ℕ) → At j n → j ≡ i)

-- from each entity edges lead to its supertypes
abbrev pub AreSupertypes : Schema → List (List ℕ) → Type 0
AreSupertypes s g = AllZip (λ e edges. ArePositions (IsEntityAt s) e.supertypes edges) s.entities g

abbrev pub AreTypesUnder : Schema → Underlying → List ℕ → Type 0
AreTypesUnder s (items ns) edges = ArePositions (IsTypeAt s) [] edges
AreTypesUnder s (select ns) edges = ArePositions (IsSelectAt s) ns edges
AreTypesUnder s (plain e) edges = ArePositions (IsTypeAt s) (option_to_list (lone_name e)) edges

-- from each type edges lead to the type that is all that stands under it, or to the selects among its items
abbrev pub AreTypes : Schema → List (List ℕ) → Type 0
AreTypes s g = AllZip (λ t edges. AreTypesUnder s t.under edges) s.types g

-- the type at this position has this name
pub record IsDefinedAt (s : Schema) (i : ℕ) (n : List ℕ) : Type 0 where
  pub type : Defined
  pub there : slice_get s.types i ≡ Some type
  pub name_is : type.name ≡ n

-- the type a stands for the type b, or the SELECT b is an item of the SELECT a
abbrev pub LeadsToType : Schema → List ℕ → List ℕ → Type 0
LeadsToType s a b = IsOther s a b ⊎ IsInnerSelect s a b
