-- What is wrong with the header section of a file.
use Rattle.std.specs.Prelude.{◌≡◌, ◌≢◌, ℕ, ◌⊎◌, List, [], ◌∷◌, ◌++◌, All, map, codes, Option, Some, None}
use Rattle.std.specs.Char.{to_ascii_uppercase}
use Rattle.p21_text.specs.Items.{Item, ItemsOf, scalar, page}
use Rattle.p21_tree.specs.Tree.{Tree, Trees, items, str, cons, nil}
use Rattle.p21_tree.specs.Grammar.{Entry}
use Rattle.p21_tree.specs.Sentence.{Opening}
use Rattle.p21_tree.specs.declared.faults.FaultKind.{FaultKind}
use Rattle.p21_tree.specs.declared.faults.FaultKind.TheVariants as kind
use Rattle.p21_express.specs.Schema.{Schema}

abbrev pub entity : List ℕ → Trees → Entry
entity keyword params = record { keyword = keyword; params = params }

-- the first three header entities are FILE_DESCRIPTION, FILE_NAME and FILE_SCHEMA, in that order, and the third has these parameters
pub record BeginsWith (opening : Opening) (params : Trees) : Type 0 where
  pub description : Trees
  pub name : Trees
  pub others : List Entry
  pub entities : opening.entities ≡ entity (codes "FILE_DESCRIPTION") description ∷ entity (codes "FILE_NAME") name ∷ entity (codes "FILE_SCHEMA") params ∷ others

abbrev pub only : Tree → Trees
only t = cons t nil

-- the only parameter of FILE_SCHEMA is a list of one string, whose body this is
abbrev pub HasSchemaString : Opening → List ℕ → Type 0
HasSchemaString opening body = BeginsWith opening (only (items (only (str body))))

-- a space or an opening brace
abbrev pub IsNameEnd : Item → Type 0
IsNameEnd x = (x ≡ scalar 32) ⊎ (x ≡ scalar 123)

-- nothing is there, or what ends a name
abbrev pub BeginsWithEnd : List Item → Type 0
BeginsWithEnd [] = Unit {0}
BeginsWithEnd (x ∷ xs) = IsNameEnd x

-- an ASCII letter in upper case, each other item as it is
abbrev pub in_upper_case : Item → Item
in_upper_case (scalar c) = scalar (to_ascii_uppercase c)
in_upper_case (page letter n) = page letter n

-- The items before the first space or opening brace are not none and, in upper case, the characters of the name.
pub record NameSchema (found : List Item) (name : List ℕ) : Type 0 where
  pub front : List Item
  pub rest : List Item
  pub parts : found ≡ front ++ rest
  pub before : All (λ x. ¬ (IsNameEnd x)) front
  pub behind : BeginsWithEnd rest
  pub some : front ≢ []
  pub same : map in_upper_case front ≡ map scalar name

-- The header entities are not those that the standard asks for; else their string names another schema; else there is
-- no fault.
abbrev pub IsHeaderFault : Schema → Opening → Option FaultKind → Type 0
IsHeaderFault s opening (Some kind.HeaderEntities) = (body : List ℕ) → ¬ (HasSchemaString opening body)
IsHeaderFault s opening (Some kind.WrongSchema) = (body : List ℕ) × (found : List Item) × HasSchemaString opening body × ItemsOf body found × ¬ (NameSchema found s.name)
IsHeaderFault s opening (Some other) = ⊥
IsHeaderFault s opening None = (body : List ℕ) × (found : List Item) × HasSchemaString opening body × ItemsOf body found × NameSchema found s.name
