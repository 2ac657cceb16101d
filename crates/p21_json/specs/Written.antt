-- What is written of parts.
use Rattle.std.specs.Prelude.{◌≡◌, List, ◌++◌}
use Rattle.json.specs.Token.{Token}
use Rattle.json.specs.Written.{Written}
use Rattle.p21_express.specs.Schema.{Schema}
use Rattle.p21_json.specs.Parts.{Part, AreTokensOf}

-- tokens of the parts were added
pub record Adds (s : Schema) (old new : Written) (parts : List Part) : Type 0 where
  pub tokens : List Token
  pub are : AreTokensOf s parts tokens
  pub added : new.tokens ≡ old.tokens ++ tokens
  pub before : new.before ≡ old.before

-- tokens of parts that are such were added
abbrev pub AddsSome : Schema → Written → Written → (List Part → Type 0) → Type 0
AddsSome s old new P = (parts : List Part) × P parts × Adds s old new parts
