-- The JSON of instances.
use Rattle.std.specs.Prelude.{◌≡◌, Bool, true, false, ℕ, List, [], ◌∷◌, ◌++◌, codes}
use Rattle.std.specs.List.{AllByRecursion}
use Rattle.json.specs.Token as json
use Rattle.p21_tree.specs.Tree.{Tree, Trees, nil, cons, derived}
use Rattle.p21_tree.specs.Grammar.{Entry}
use Rattle.p21_tree.specs.Sentence.{Instance}
use Rattle.p21_express.specs.Schema.{Schema}
use Rattle.p21_express.specs.WellFormed.{IsEntity, Origin}
use Rattle.p21_check.specs.Attributes.{AreAttributes}
use Rattle.p21_json.specs.Keys.{key_of}
use Rattle.p21_json.specs.Where.{attribute}
use Rattle.p21_json.specs.Parts.{Part, exactly, name, key, label, decimal_part, value_parts}

-- the keywords of the records are entities
abbrev pub AreKnown : Schema → List Entry → Type 0
AreKnown s es = AllByRecursion (λ e. IsEntity s e.keyword) es

-- The member of an attribute: its key and the value, but for a derived one, which is written as `*`.
abbrev pub member_parts : Instance → List ℕ → Origin → Tree → List Part
member_parts i k o derived = []
member_parts i k o t = key k ∷ value_parts (attribute i o) t

-- the members of a record: its parameters by the keys of its attributes, in order, where some attributes stand before these
abbrev pub members_parts : Instance → List Origin → List Origin → Trees → List Part
members_parts i before [] ts = []
members_parts i before (o ∷ os) nil = []
members_parts i before (o ∷ os) (cons t ts) = member_parts i (key_of before o) o t ++ members_parts i (before ++ o ∷ []) os ts

-- `"type":"IfcWall","attributes":{..}`
abbrev pub record_parts : Instance → List Origin → Entry → List Part
record_parts i os e = label (codes "type") ∷ name e.keyword ∷ label (codes "attributes") ∷ exactly json.begin_object ∷ (members_parts i [] os e.params ++ exactly json.end_object ∷ [])

-- the same by the attributes that the schema gives the record
abbrev pub IsRecordParts : Schema → Instance → Entry → List Part → Type 0
IsRecordParts s i e parts = (os : List Origin) × AreAttributes s i.complex e.keyword os × (parts ≡ record_parts i os e)

-- an object for each record
abbrev pub AreRecordsParts : Schema → Instance → List Entry → List Part → Type 0
AreRecordsParts s i [] parts = parts ≡ []
AreRecordsParts s i (e ∷ es) parts = (first : List Part) × (rest : List Part) × IsRecordParts s i e first × AreRecordsParts s i es rest × (parts ≡ exactly json.begin_object ∷ (first ++ exactly json.end_object ∷ rest))

-- what stands after the name of an instance: its record, or in a complex one its records
abbrev pub IsBehindName : Schema → Instance → Bool → List Entry → List Part → Type 0
IsBehindName s i true es parts = (records : List Part) × AreRecordsParts s i es records × (parts ≡ label (codes "records") ∷ exactly json.begin_array ∷ (records ++ exactly json.end_array ∷ []))
IsBehindName s i false [] parts = ⊥
IsBehindName s i false (e ∷ es) parts = IsRecordParts s i e parts

-- The parts of an instance: `{"id":767,"type":"IfcWall","attributes":{..}}`, or `{"id":767,"records":[{"type":..,"attributes":{..}},..]}` of a complex one.
-- Attributes written as `*` are left out.
abbrev pub IsInstanceParts : Schema → Instance → List Part → Type 0
IsInstanceParts s i parts = (behind : List Part) × IsBehindName s i i.complex i.records behind × (parts ≡ exactly json.begin_object ∷ label (codes "id") ∷ decimal_part i.name ∷ (behind ++ exactly json.end_object ∷ []))
