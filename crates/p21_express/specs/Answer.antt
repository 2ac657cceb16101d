-- What a text has by the grammar alone, and what an error says.
use Rattle.std.specs.Prelude.{ℕ, List}
use Rattle.p21_express.specs.declared.refusal.Refusal.{Refusal}
use Rattle.p21_express.specs.declared.refusal.Refusal.TheVariants as refusal
use Rattle.p21_express.specs.declared.error.SchemaError.{SchemaError}
use Rattle.p21_express.specs.declared.error.SchemaError.TheVariants as errors
use Rattle.p21_express.specs.Word.{Word}
use Rattle.p21_express.specs.Words.{AreWords}
use Rattle.p21_express.specs.Schema.{Schema}
use Rattle.p21_express.specs.Grammar.{SchemaIs}
use Rattle.p21_express.specs.Reading.{IsReading}

-- a text's words are these declarations, by the grammar
pub record IsForm (text : List ℕ) (s : Schema) : Type 0 where
  pub words : List Word
  pub are_words : AreWords text words
  pub is_schema : SchemaIs words s

abbrev pub HasNoForm : List ℕ → Type 0
HasNoForm text = (s : Schema) → IsForm text s → ⊥

-- no declarations are those of the text
abbrev pub HasNoReading : List ℕ → Type 0
HasNoReading text = (s : Schema) → IsReading text s → ⊥

-- what an error says of the text: for lack of memory nothing
abbrev pub OnRefusal : SchemaError → Type 0 → Type 0
OnRefusal (errors.Syntax at) P = P
OnRefusal (errors.NotSupported at) P = P
OnRefusal (errors.Repeated at) P = P
OnRefusal (errors.UnknownName at) P = P
OnRefusal (errors.Cycle at) P = P
OnRefusal (errors.BadRedeclaration at) P = P
OnRefusal errors.Memory P = Unit {0}

-- what a refusal says
abbrev pub OnRefused : Refusal → Type 0 → Type 0
OnRefused (refusal.Refused kind left) P = P
OnRefused refusal.Memory P = Unit {0}
