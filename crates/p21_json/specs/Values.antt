-- The JSON of values.
use Rattle.std.specs.Prelude.{◌≡◌, ℕ, List}
use Rattle.json.specs.Token.{Token}
use Rattle.json.specs.Lex as json
use Rattle.json.specs.Print.{print}
use Rattle.p21_express.specs.Schema.{Schema}
use Rattle.p21_json.specs.Parts.{Part, AreTokensOf}

-- The text of parts: the print of their tokens, which reads back as these tokens.
pub record IsTextOf (s : Schema) (parts : List Part) (text : List ℕ) : Type 0 where
  pub tokens : List Token
  pub are : AreTokensOf s parts tokens
  pub printed : text ≡ print tokens
  pub reads_back : json.tokens (print tokens) ≡ tokens
