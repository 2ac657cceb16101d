-- What holds of the JSON of every model: its numbers are numbers of JSON, and nothing is lost but how values are spelled.
use Rattle.std.specs.Prelude.{◌≡◌, ◌⊎◌, ℕ, Bool, List, [], None, map}
use Rattle.std.specs.Char.{to_ascii_lowercase}
use Rattle.json.specs.Token.{Token}
use Rattle.json.specs.Print.{IsNumber}
use Rattle.p21_text.specs.Spelling.{IsInt, IsReal}
use Rattle.p21_tree.specs.Tree.{Tree, Trees, absent}
use Rattle.p21_tree.specs.Sentence.{Instance}
use Rattle.p21_express.specs.Schema.{Schema, Expr}
use Rattle.p21_express.specs.WellFormed.{AreDistinct, Origin}
use Rattle.p21_check.specs.Attributes.{AreAttributes}
use Rattle.p21_check.specs.Conforms.{Conforms}
use Rattle.p21_check.specs.LocalFault.{IsLocalFault}
use Rattle.p21_json.specs.Instances.{members_parts, IsInstanceParts}
use Rattle.p21_json.specs.Keys.{keys_behind}
use Rattle.p21_json.specs.Logical.{TakesLogical}
use Rattle.p21_json.specs.Members.{Member, AreMembers, AllShowTheSame, tokens_of}
use Rattle.p21_json.specs.Numerals.{numeral_of}
use Rattle.p21_json.specs.Parts.{Part, AreTokensOf, value_parts}
use Rattle.p21_json.specs.Same.{IsSame, IsSameInstance}
use Rattle.p21_json.specs.Spelled.{text_of}
use Rattle.p21_json.specs.Spellings.{HasSpellings, IsSpelledInstance}
use Rattle.p21_json.specs.Where.{Where, IsLogicalAt}

-- an integer or a real is a number as JSON writes it
abbrev pub BecomesNumber : List ℕ → Type 0
BecomesNumber v = IsInt v ⊎ IsReal v → IsNumber (text_of (numeral_of v))

-- where items of enumerations are of BOOLEAN or LOGICAL, so is the type
abbrev pub IsOfType : Schema → Where → Expr → Type 0
IsOfType s w e = IsLogicalAt s w → TakesLogical s e

-- a value of the type, or `$`, as a file spells it
pub record IsValueOf (s : Schema) (e : Expr) (t : Tree) : Type 0 where
  pub fits : Conforms s e t ⊎ (t ≡ absent)
  pub spelled : HasSpellings t

-- Two values of one type, there where such stand, with the same tokens are the same but for spelling.
abbrev pub LosesNoValue : Schema → Type 0
LosesNoValue s =
    (e : Expr) → (w : Where) → (t u : Tree) → (tokens : List Token) → IsOfType s w e → IsValueOf s e t → IsValueOf s e u → AreTokensOf s (value_parts w t) tokens → AreTokensOf s (value_parts w u) tokens → IsSame t u

-- an instance that has no fault by itself, as a file spells it
pub record IsSound (s : Schema) (i : Instance) : Type 0 where
  pub faultless : IsLocalFault s i None
  pub spelled : IsSpelledInstance i

-- the tokens of an instance
pub record IsWrittenAs (s : Schema) (i : Instance) (tokens : List Token) : Type 0 where
  pub parts : List Part
  pub are_parts : IsInstanceParts s i parts
  pub are_tokens : AreTokensOf s parts tokens

-- Two instances with the same tokens are the same but for spelling.
abbrev pub LosesNothing : Schema → Type 0
LosesNothing s = (i j : Instance) → (tokens : List Token) → IsSound s i → IsSound s j → IsWrittenAs s i tokens → IsWrittenAs s j tokens → IsSameInstance i j

-- So are two whose objects have the same under each key, whatever the order of the members.
abbrev pub LosesNoMember : Schema → Type 0
LosesNoMember s = (i j : Instance) → IsSound s i → IsSound s j → i.name ≡ j.name → i.complex ≡ j.complex → AllShowTheSame s i j i.records j.records → IsSameInstance i j

-- The tokens of the members of a record are those of a key and a value for each.
abbrev pub WritesMembers : Schema → Type 0
WritesMembers s = (i : Instance) → (os : List Origin) → (ts : Trees) → (tokens : List Token) → AreTokensOf s (members_parts i [] os ts) tokens → (ms : List Member) × AreMembers s i [] os ts ms × (tokens ≡ tokens_of ms)

-- No two attributes of a record have one key, whatever the case of letters.
abbrev pub HasDistinctKeys : Schema → Type 0
HasDistinctKeys s = (c : Bool) → (n : List ℕ) → (os : List Origin) → AreAttributes s c n os → AreDistinct (map (map to_ascii_lowercase) (keys_behind [] os))
