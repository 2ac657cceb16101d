-- What is known of the instances so far, by what is kept of them.
use Rattle.std.specs.Prelude.{◌≡◌, ℕ, Bool, true, false, nat_eq, nat_lt, List, [], ◌∷◌, ◌++◌, Option, None, Some, Vec, if◌then◌else◌, slice_get}
use Rattle.std.specs.Cmp.Lexicographic.{pointwise}
use Rattle.indexmap.specs.IndexMap.{IndexMap, get}
use Rattle.p21_express.specs.Schema.{Schema}
use Rattle.p21_express.specs.WellFormed.{Origin}
use Rattle.p21_tree.specs.Sentence.{Instance}
use Rattle.p21_rules.specs.declared.rule.UniqueRule.{UniqueRule}
use Rattle.p21_rules.specs.declared.unique.NotUnique.{NotUnique}
use Rattle.p21_rules.specs.Code.{key_code, values_code}
use Rattle.p21_rules.specs.NotUnique.{AreFaultsAt, Breaks, Keeps, IsFirstOrNone, IsUnder}
use Rattle.p21_rules.specs.Parameter.{HasValues}
use Rattle.p21_rules.specs.Value.{Value}

-- the values of the attributes were added, or the instance does not have all
abbrev pub ArePushed : Schema → Instance → List Origin → List ℕ → List ℕ → Bool → Type 0
ArePushed s i os old new true = (vs : List Value) × HasValues s i os vs × (new ≡ old ++ values_code vs)
ArePushed s i os old new false = (vs : List Value) → ¬ (HasValues s i os vs)

-- the key of the values that the instance has under the rule of this number, or it has none
abbrev pub IsKey : {A : Type 0} → Schema → ℕ → UniqueRule → Instance → Option (Vec ℕ A) → Type 0
IsKey s k r i None = (vs : List Value) → ¬ (IsUnder s r i vs)
IsKey s k r i (Some key) = (vs : List Value) × IsUnder s r i vs × (key.items ≡ key_code k vs)

-- which keys are one
abbrev pub key_eq : {A : Type 0} → Vec ℕ A → Vec ℕ A → Bool
key_eq a b = pointwise nat_eq a.items b.items

-- the name that is kept for a key, or none; it is kept then, where none was
abbrev pub IsKept : {A S : Type 0} → IndexMap (Vec ℕ A) ℕ S → Vec ℕ A → ℕ → Option ℕ → IndexMap (Vec ℕ A) ℕ S → Type 0
IsKept old key name None new = (get key_eq old key ≡ None) × ((q : Vec _ _) → get key_eq new q ≡ (if key_eq key q then Some name else get key_eq old q))
IsKept old key name (Some first) new = (get key_eq old key ≡ Some first) × ((q : Vec _ _) → get key_eq new q ≡ get key_eq old q)

-- for each rule, and all values, the name of the first instance that has them is kept, among those that were seen by the rule of this number
abbrev pub Holds : {A S : Type 0} → Schema → List UniqueRule → IndexMap (Vec ℕ A) ℕ S → (ℕ → List Instance) → Type 0
Holds {A} s rules firsts seen = (k : ℕ) (r : UniqueRule) (vs : List Value) (q : Vec ℕ A) → slice_get rules k ≡ Some r → q.items ≡ key_code k vs → IsFirstOrNone s r vs (seen k) (get key_eq firsts q)

-- these instances were seen, and the one after them too by the rules below this number
abbrev pub seen_below : List Instance → Instance → ℕ → ℕ → List Instance
seen_below before i n k = if nat_lt k n then before ++ i ∷ [] else before

-- whether an instance after these breaks the rule
abbrev pub IsBreach : Schema → UniqueRule → List Instance → Instance → Option ℕ → Type 0
IsBreach s r before i None = Keeps s r before i
IsBreach s r before i (Some name) = Breaks s r before i name

-- the faults of an instance after these were added, and it is among those that were seen
abbrev pub AreAdded : {A S : Type 0} → Schema → List UniqueRule → List Instance → Instance → IndexMap (Vec ℕ A) ℕ S → List NotUnique → List NotUnique → Type 0
AreAdded s rules before i firsts old new = ((fs : List NotUnique) × AreFaultsAt s before i 0 rules fs × (new ≡ old ++ fs)) × Holds s rules firsts (λ k. before ++ i ∷ [])

-- the fault of an instance at a place by the rule of this number, or none
abbrev pub breach_of : ℕ → ℕ → Option ℕ → List NotUnique
breach_of at rule None = []
breach_of at rule (Some earlier) = record { at = at; rule = rule; earlier = earlier } ∷ []
