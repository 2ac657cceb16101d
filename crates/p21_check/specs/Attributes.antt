-- Which attributes the parameters of a record are for.
use Rattle.std.specs.Prelude.{◌≡◌, ℕ, Bool, true, false, List}
use Rattle.p21_express.specs.Schema.{Schema, Entity}
use Rattle.p21_express.specs.WellFormed.{IsIn, Origin}
use Rattle.p21_schema.specs.Row.{IsRow, own_attributes}

-- The record of a simple instance has the attributes of its entity's row; a record of a complex one has the own attributes of
-- its entity alone.
pub data AreAttributes (s : Schema) : Bool → List ℕ → List Origin → Type 0 where
  simple : {n : List ℕ} {row : List Origin} → IsRow s n row → AreAttributes s false n row
  complex : {n : List ℕ} {own : List Origin} (e : Entity) → IsIn s.entities e → e.name ≡ n → own_attributes e ≡ own → AreAttributes s true n own
