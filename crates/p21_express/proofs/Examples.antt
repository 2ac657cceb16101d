-- Worked examples of the definitions.
use Rattle.std.proofs.Common.{false, List, [], ◌∷◌, None, refl}
use Rattle.std.specs.Prelude.{codes}
use Rattle.p21_express.specs.Word.{Word, name, symbol}
use Rattle.p21_express.specs.Words.{Closes, EndsString}
use Rattle.p21_express.specs.Schema.{Schema, Entity}
use Rattle.p21_express.specs.Schema as schema
use Rattle.p21_express.specs.Grammar.{SchemaIs}
use Rattle.p21_express.specs.Lexer.{string_end, remark_end}
use Rattle.p21_express.specs.Reader.{many, schema_at, declarations_at, declaration_at, entity_at, supertype_at, subtype_at, all_attributes_at, attributes_at, namings_at, naming_at, expr_at, derives_at, rules_end}
use Rattle.p21_express.specs.Keywords.{type_word_of, decl_word_of, is_rules_word}
use Rattle.p21_express.proofs.DeclarationLemmas.{schema_sound}
use Rattle.p21_express.proofs.FrontLemmas.{string_sound, remark_sound}

-- `(* *) *)` is open twice
example_remark : Closes 1 (codes "(* *) *)X") (codes "X")
unfolding remark_end
example_remark = remark_sound 0 (codes "(* *) *)X") (codes "X") refl

-- `IT''S'` ends at its last apostrophe
example_string : EndsString (codes "IT''S';") (codes ";")
unfolding string_end
example_string = string_sound (codes "IT''S';") (codes ";") refl

-- the words of one entity with one attribute
one_entity : List Word
one_entity = name (codes "SCHEMA") ∷ name (codes "S") ∷ symbol 59 ∷ name (codes "ENTITY") ∷ name (codes "A") ∷ symbol 59 ∷ name (codes "X") ∷ symbol 58 ∷ name (codes "INTEGER") ∷ symbol 59 ∷ name (codes "END_ENTITY") ∷ symbol 59 ∷ name (codes "END_SCHEMA") ∷ symbol 59 ∷ []

its_schema : Schema
its_schema = record { name = codes "S"; entities = record { name = codes "A"; is_abstract = false; supertypes = []; attributes = record { name = codes "X"; of = None; optional = false; texpr = schema.integer } ∷ []; derived = [] } ∷ []; types = []; distinct = false }

example_schema : SchemaIs one_entity its_schema
unfolding one_entity its_schema schema_at declarations_at declaration_at entity_at supertype_at subtype_at all_attributes_at attributes_at namings_at naming_at expr_at derives_at rules_end many type_word_of decl_word_of is_rules_word
example_schema = schema_sound one_entity its_schema refl
