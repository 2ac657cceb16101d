-- The lines of a model.
use Rattle.std.specs.Prelude.{◌≡◌, ℕ, List, [], ◌∷◌, ◌++◌}
use Rattle.json.specs.Token.{Token}
use Rattle.json.specs.Lex as json
use Rattle.json.specs.Print.{print}
use Rattle.p21_tree.specs.Sentence.{Instance}
use Rattle.p21_express.specs.Schema.{Schema}
use Rattle.p21_json.specs.Parts.{Part, AreTokensOf}
use Rattle.p21_json.specs.Instances.{IsInstanceParts}

-- The line of parts that are such: the print of their tokens, which reads back as these tokens, and a line end.
pub record IsLineOf (s : Schema) (Such : List Part → Type 0) (line : List ℕ) : Type 0 where
  pub parts : List Part
  pub such : Such parts
  pub tokens : List Token
  pub are : AreTokensOf s parts tokens
  pub printed : line ≡ print tokens ++ 10 ∷ []
  pub reads_back : json.tokens (print tokens) ≡ tokens

-- the line of an instance
abbrev pub IsLine : Schema → Instance → List ℕ → Type 0
IsLine s i line = IsLineOf s (IsInstanceParts s i) line

-- The lines of instances: a line each, in order.
pub data AreLines (s : Schema) : List Instance → List ℕ → Type 0 where
  none : AreLines s [] []
  more : {i : Instance} {is : List Instance} {lines text : List ℕ} (line : List ℕ) → IsLine s i line → AreLines s is lines → text ≡ line ++ lines → AreLines s (i ∷ is) text
