-- Types whose values are of BOOLEAN or LOGICAL.
use Rattle.std.specs.Prelude.{◌≡◌, ℕ, List}
use Rattle.p21_express.specs.Schema.{Schema, Defined, Expr, Aggregate}
use Rattle.p21_express.specs.Schema as type
use Rattle.p21_express.specs.WellFormed.{IsIn}

-- BOOLEAN or LOGICAL, a type of such values, or an aggregate of such elements
pub data TakesLogical (s : Schema) : Expr → Type 0 where
  boolean : TakesLogical s type.boolean
  logical : TakesLogical s type.logical
  element : {a : Aggregate} {e : Expr} → TakesLogical s e → TakesLogical s (type.aggregate a e)
  defined : {n : List ℕ} {e : Expr} (t : Defined) → IsIn s.types t → t.name ≡ n → t.under ≡ type.plain e → TakesLogical s e → TakesLogical s (type.named n)
