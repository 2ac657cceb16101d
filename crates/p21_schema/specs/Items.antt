-- The items of an ENUMERATION.
use Rattle.std.specs.Prelude.{ℕ, List}
use Rattle.p21_express.specs.Schema.{Schema, Underlying, items, select, plain}
use Rattle.p21_express.specs.WellFormed.{IsIn}
use Rattle.p21_schema.specs.Under.{StandsUnder}

-- the name is an item of what stands there
abbrev pub IsItemOf : Underlying → List ℕ → Type 0
IsItemOf (items ns) n = IsIn ns n
IsItemOf (select ns) n = ⊥
IsItemOf (plain e) n = ⊥

-- An ENUMERATION stands under the type n, and m is one of its items.
pub record HasItem (s : Schema) (n m : List ℕ) : Type 0 where
  pub under : Underlying
  pub stands : StandsUnder s n under
  pub item : IsItemOf under m
