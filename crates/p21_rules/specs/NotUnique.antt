-- The rules UNIQUE over a model.
use Rattle.std.specs.Prelude.{◌≡◌, ℕ, ◌+◌, List, [], ◌∷◌, ◌++◌, Option, None, Some, All, map}
use Rattle.std.specs.List.{AllByRecursion}
use Rattle.p21_express.specs.Schema.{Schema}
use Rattle.p21_tree.specs.Sentence.{Instance}
use Rattle.p21_schema.specs.Place.{IsEntityOf, entity_name}
use Rattle.p21_schema.specs.Row.{IsAttributeOf, attribute_at}
use Rattle.p21_rules.specs.declared.rule.UniqueRule.{UniqueRule}
use Rattle.p21_rules.specs.declared.unique.NotUnique.{NotUnique}
use Rattle.p21_rules.specs.Value.{Value}
use Rattle.p21_rules.specs.Parameter.{HasValues, IsOf}

-- its entity and its attributes are of this schema
pub record IsRuleOf (s : Schema) (r : UniqueRule) : Type 0 where
  pub entity : IsEntityOf s r.entity
  pub attributes : All (IsAttributeOf s) r.attributes.items

-- the same of each rule
abbrev pub AreRulesOf : Schema → List UniqueRule → Type 0
AreRulesOf s rules = All (IsRuleOf s) rules

-- the instance is of the rule's entity, and these are the values of the rule's attributes in it
pub record IsUnder (s : Schema) (r : UniqueRule) (i : Instance) (vs : List Value) : Type 0 where
  pub of : IsOf s i (entity_name s r.entity)
  pub values : HasValues s i (map (attribute_at s) r.attributes.items) vs

-- no instance of the list has these values under the rule
abbrev pub HaveNot : Schema → UniqueRule → List Value → List Instance → Type 0
HaveNot s r vs is = AllByRecursion (λ i. ¬ (IsUnder s r i vs)) is

-- the first instance of the list that has these values under the rule has this name
pub record IsFirst (s : Schema) (r : UniqueRule) (vs : List Value) (is : List Instance) (name : ℕ) : Type 0 where
  pub front : List Instance
  pub instance : Instance
  pub back : List Instance
  pub parts : is ≡ front ++ instance ∷ back
  pub before : HaveNot s r vs front
  pub has : IsUnder s r instance vs
  pub named : instance.name ≡ name

-- the same, or none where no instance has these values
abbrev pub IsFirstOrNone : Schema → UniqueRule → List Value → List Instance → Option ℕ → Type 0
IsFirstOrNone s r vs is None = HaveNot s r vs is
IsFirstOrNone s r vs is (Some name) = IsFirst s r vs is name

-- An instance breaks a rule where it has under it the values of an earlier one: this is the name of the first such.
abbrev pub Breaks : Schema → UniqueRule → (earlier : List Instance) → Instance → ℕ → Type 0
Breaks s r earlier i name = (vs : List Value) × IsUnder s r i vs × IsFirst s r vs earlier name

-- no earlier instance has under the rule the values of this one
abbrev pub Keeps : Schema → UniqueRule → (earlier : List Instance) → Instance → Type 0
Keeps s r earlier i = (vs : List Value) → IsUnder s r i vs → HaveNot s r vs earlier

-- the faults of an instance after these, by the rules from this number on, one at most of each
pub data AreFaultsAt (s : Schema) (earlier : List Instance) (i : Instance) : ℕ → List UniqueRule → List NotUnique → Type 0 where
  none : {k : ℕ} → AreFaultsAt s earlier i k [] []
  keeps : {k : ℕ} {r : UniqueRule} {rs : List UniqueRule} {fs : List NotUnique} → Keeps s r earlier i → AreFaultsAt s earlier i (k + 1) rs fs → AreFaultsAt s earlier i k (r ∷ rs) fs
  breaks : {k name : ℕ} {r : UniqueRule} {rs : List UniqueRule} {fs : List NotUnique} → Breaks s r earlier i name → AreFaultsAt s earlier i (k + 1) rs fs
      → AreFaultsAt s earlier i k (r ∷ rs) (record { at = i.at; rule = k; earlier = name } ∷ fs)

-- The faults of some instances after others: those of the first of them, and then those of the rest.
pub data AreFaultsBehind (s : Schema) (rules : List UniqueRule) : List Instance → List Instance → List NotUnique → Type 0 where
  none : {earlier : List Instance} → AreFaultsBehind s rules earlier [] []
  more : {earlier is : List Instance} {i : Instance} {fs gs all : List NotUnique} → AreFaultsAt s earlier i 0 rules fs → AreFaultsBehind s rules (earlier ++ i ∷ []) is gs → all ≡ fs ++ gs → AreFaultsBehind s rules earlier (i ∷ is) all

-- the faults of the instances of a file by these rules
-- Of each instance in turn those by each rule in turn that it breaks, at its place.
abbrev pub AreFaults : Schema → List UniqueRule → List Instance → List NotUnique → Type 0
AreFaults s rules is fs = AreFaultsBehind s rules [] is fs
