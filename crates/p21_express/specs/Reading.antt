-- What a schema's text declares.
use Rattle.std.specs.Prelude.{ℕ, List}
use Rattle.p21_express.specs.Word.{Word}
use Rattle.p21_express.specs.Words.{AreWords}
use Rattle.p21_express.specs.Schema.{Schema}
use Rattle.p21_express.specs.Grammar.{SchemaIs}
use Rattle.p21_express.specs.WellFormed.{IsWellFormed}

-- A text declares what its words are by the grammar, where the declarations fit together.
pub record IsReading (text : List ℕ) (s : Schema) : Type 0 where
  pub words : List Word
  pub are_words : AreWords text words
  pub is_schema : SchemaIs words s
  pub is_well_formed : IsWellFormed s
