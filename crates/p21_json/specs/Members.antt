-- The members of an object, as who reads JSON takes them: by their keys, of which the last counts.
use Rattle.std.specs.Prelude.{◌≡◌, ℕ, List, [], ◌∷◌, ◌++◌, Option, None, Some, if◌then◌else◌}
use Rattle.std.specs.Str.{bytes_eq}
use Rattle.json.specs.Token.{Token}
use Rattle.json.specs.Token as json
use Rattle.p21_tree.specs.Tree.{Tree, Trees, nil, cons, derived}
use Rattle.p21_tree.specs.Grammar.{Entry}
use Rattle.p21_tree.specs.Sentence.{Instance}
use Rattle.p21_express.specs.Schema.{Schema}
use Rattle.p21_express.specs.WellFormed.{Origin}
use Rattle.p21_check.specs.Attributes.{AreAttributes}
use Rattle.p21_json.specs.Keys.{key_of}
use Rattle.p21_json.specs.Parts.{AreTokensOf, value_parts}
use Rattle.p21_json.specs.Spelled.{IsSpelled}
use Rattle.p21_json.specs.Where.{attribute}

-- a key, and the tokens of its value
pub record Member : Type 0 where
  pub key : List ℕ
  pub value : List Token

-- the first where there is one, and else the second
abbrev pub or_else : Option (List Token) → Option (List Token) → Option (List Token)
or_else None other = other
or_else (Some v) other = Some v

-- the value under a key: that of the last member with the key
abbrev pub under : List ℕ → List Member → Option (List Token)
under k [] = None
under k (m ∷ ms) = or_else (under k ms) (if bytes_eq m.key k then Some m.value else None)

-- the tokens of members
abbrev pub tokens_of : List Member → List Token
tokens_of [] = []
tokens_of (m ∷ ms) = json.key m.key ∷ (m.value ++ tokens_of ms)

-- the member of a parameter; none of a derived one, which is written as `*`
abbrev pub IsMember : Schema → Instance → List ℕ → Origin → Tree → List Member → Type 0
IsMember s i k o derived ms = ms ≡ []
IsMember s i k o t ms = (m : Member) × IsSpelled m.key k × AreTokensOf s (value_parts (attribute i o) t) m.value × (ms ≡ m ∷ [])

-- the members of parameters by the keys of their attributes, where some attributes stand before these
abbrev pub AreMembers : Schema → Instance → List Origin → List Origin → Trees → List Member → Type 0
AreMembers s i before [] ts ms = ms ≡ []
AreMembers s i before (o ∷ os) nil ms = ms ≡ []
AreMembers s i before (o ∷ os) (cons t ts) ms = (first : List Member) × (rest : List Member) × IsMember s i (key_of before o) o t first × AreMembers s i (before ++ o ∷ []) os ts rest × (ms ≡ first ++ rest)

-- what the object of a record shows: its type, and its members
pub record IsShown (s : Schema) (i : Instance) (e : Entry) (type : List ℕ) (members : List Member) : Type 0 where
  pub spelled : IsSpelled type e.keyword
  pub attributes : List Origin
  pub are : AreAttributes s i.complex e.keyword attributes
  pub shown : AreMembers s i [] attributes e.params members

-- the objects of two records have one type, and under each key the same
pub record ShowTheSame (s : Schema) (i j : Instance) (e f : Entry) : Type 0 where
  pub type : List ℕ
  pub first : List Member
  pub second : List Member
  pub of_first : IsShown s i e type first
  pub of_second : IsShown s j f type second
  pub same : (k : List ℕ) → under k first ≡ under k second

-- so have those of each two
abbrev pub AllShowTheSame : Schema → Instance → Instance → List Entry → List Entry → Type 0
AllShowTheSame s i j [] [] = Unit {0}
AllShowTheSame s i j [] (f ∷ fs) = ⊥
AllShowTheSame s i j (e ∷ es) [] = ⊥
AllShowTheSame s i j (e ∷ es) (f ∷ fs) = ShowTheSame s i j e f × AllShowTheSame s i j es fs
