-- Which instances are of an entity.
use Rattle.std.specs.Prelude.{◌≡◌, Bool, true, false, ℕ, List}
use Rattle.p21_express.specs.Schema.{Schema}
use Rattle.p21_express.specs.WellFormed.{IsIn}
use Rattle.p21_tree.specs.Sentence.{Instance}
use Rattle.p21_check.specs.EntitySet.{keywords}
use Rattle.p21_json.specs.Where.{IsBelow}

-- the name is the entity's, or where subtypes count too, that of the entity or of one below it
abbrev pub IsMeant : Schema → Bool → List ℕ → List ℕ → Type 0
IsMeant s true k n = IsBelow s k n
IsMeant s false k n = k ≡ n

-- a record of the instance has such a name
-- It names the entity, or one below it where these count too.
pub record IsWanted (s : Schema) (subtypes : Bool) (n : List ℕ) (i : Instance) : Type 0 where
  pub keyword : List ℕ
  pub written : IsIn (keywords i) keyword
  pub meant : IsMeant s subtypes keyword n
