-- Declarations one by one, as plain values.
use Rattle.std.specs.Prelude.{List, [], ◌∷◌}
use Rattle.p21_express.specs.Schema.{Entity, Defined}
use Rattle.p21_express.specs.Grammar.{Declaration, an_entity, a_type, skipped}
use Rattle.p21_express.specs.Plain.{plain_entity, plain_type}
use Rattle.p21_express.specs.declared.schema.AnyDecl as source
use Rattle.p21_express.specs.declared.schema.AnyDecl.TheVariants as declaration

abbrev pub plain_declaration : source.AnyDecl → Declaration
plain_declaration (declaration.Entity d p) = an_entity (plain_entity d)
plain_declaration (declaration.Type d p) = a_type (plain_type d)
plain_declaration declaration.Skipped = skipped

abbrev pub entities_one : Declaration → List Entity
entities_one (an_entity e) = e ∷ []
entities_one (a_type t) = []
entities_one skipped = []

abbrev pub types_one : Declaration → List Defined
types_one (an_entity e) = []
types_one (a_type t) = t ∷ []
types_one skipped = []
