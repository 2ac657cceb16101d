-- The JSON of a header.
use Rattle.std.specs.Prelude.{◌≡◌, ℕ, List, [], ◌∷◌, ◌++◌, codes}
use Rattle.json.specs.Token as json
use Rattle.p21_tree.specs.Tree.{Trees, nil, cons}
use Rattle.p21_tree.specs.Grammar.{Entry}
use Rattle.p21_tree.specs.Sentence.{Opening}
use Rattle.p21_json.specs.Where.{header}
use Rattle.p21_json.specs.Parts.{Part, exactly, label, value_parts}

-- values by the names that the standard gives them, in order
abbrev pub labelled_parts : List (List ℕ) → Trees → List Part
labelled_parts [] ts = []
labelled_parts (k ∷ ks) nil = []
labelled_parts (k ∷ ks) (cons t ts) = label k ∷ (value_parts header t ++ labelled_parts ks ts)

-- `"file_schema":{"schema_identifiers":[..]}`
abbrev pub entity_parts : List ℕ → List (List ℕ) → Entry → List Part
entity_parts word keys e = label word ∷ exactly json.begin_object ∷ (labelled_parts keys e.params ++ exactly json.end_object ∷ [])

-- the attributes of FILE_DESCRIPTION, FILE_NAME and FILE_SCHEMA
abbrev pub description_keys : List (List ℕ)
description_keys = codes "description" ∷ codes "implementation_level" ∷ []

abbrev pub name_keys : List (List ℕ)
name_keys = codes "name" ∷ codes "time_stamp" ∷ codes "author" ∷ codes "organization" ∷ codes "preprocessor_version" ∷ codes "originating_system" ∷ codes "authorization" ∷ []

abbrev pub schema_keys : List (List ℕ)
schema_keys = codes "schema_identifiers" ∷ []

-- `{"header":{"file_description":{..},"file_name":{..},"file_schema":{..}}}`
abbrev pub header_parts : Entry → Entry → Entry → List Part
header_parts d n s =
    exactly json.begin_object ∷ label (codes "header") ∷ exactly json.begin_object ∷ (entity_parts (codes "file_description") description_keys d ++ (entity_parts (codes "file_name") name_keys n
    ++ (entity_parts (codes "file_schema") schema_keys s ++ exactly json.end_object ∷ exactly json.end_object ∷ [])))

-- the parts of a header, by its first three entities
-- By the names that the standard gives to their attributes.
pub record IsHeaderParts (o : Opening) (parts : List Part) : Type 0 where
  pub description : Entry
  pub name : Entry
  pub schema : Entry
  pub others : List Entry
  pub entities : o.entities ≡ description ∷ name ∷ schema ∷ others
  pub is : parts ≡ header_parts description name schema
