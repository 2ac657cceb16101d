-- The bounds of INVERSE attributes over a model.
use Rattle.std.specs.Prelude.{◌≡◌, ◌+◌, ◌&&◌, ℕ, suc, Bool, true, false, List, [], ◌∷◌, ◌++◌, Option, None, Some, All, min, nat_eq, nat_le, if◌then◌else◌}
use Rattle.p21_express.specs.Schema.{Schema}
use Rattle.p21_tree.specs.Tree.{Tree}
use Rattle.p21_tree.specs.Sentence.{Instance}
use Rattle.p21_schema.specs.Place.{IsEntityOf, entity_name}
use Rattle.p21_schema.specs.Row.{IsAttributeOf, attribute_at}
use Rattle.p21_rules.specs.declared.rule.InverseRule.{InverseRule}
use Rattle.p21_rules.specs.declared.inverse.InverseCount.{InverseCount}
use Rattle.p21_rules.specs.Mentions.{mentions}
use Rattle.p21_rules.specs.Parameter.{IsOf, IsParameterIn}

-- its entities and its attribute are of this schema
pub record IsInverseRuleOf (s : Schema) (r : InverseRule) : Type 0 where
  pub entity : IsEntityOf s r.entity
  pub source : IsEntityOf s r.source
  pub attribute : IsAttributeOf s r.attribute

-- the same of each rule
abbrev pub AreInverseRulesOf : Schema → List InverseRule → Type 0
AreInverseRulesOf s rules = All (IsInverseRuleOf s) rules

-- the instance is of the entity that refers, and this is the parameter of its attribute
pub record IsReferring (s : Schema) (r : InverseRule) (i : Instance) (t : Tree) : Type 0 where
  pub of : IsOf s i (entity_name s r.source)
  pub parameter : IsParameterIn s i.complex (attribute_at s r.attribute) i.records t

-- The names to which an instance refers by the attribute: none where it is not of the entity that refers.
pub data RefersTo (s : Schema) (r : InverseRule) (i : Instance) : List ℕ → Type 0 where
  by : {t : Tree} {ns : List ℕ} → IsReferring s r i t → ns ≡ mentions t → RefersTo s r i ns
  none : {ns : List ℕ} → ((t : Tree) → ¬ (IsReferring s r i t)) → ns ≡ [] → RefersTo s r i ns

-- how often a name is among these
abbrev pub times : ℕ → List ℕ → ℕ
times n [] = 0
times n (m ∷ ms) = if nat_eq m n then suc (times n ms) else times n ms

-- what an instance with so many references to another counts: each of them in a BAG, and else the instance once
abbrev pub counted : (bag : Bool) → ℕ → ℕ
counted true k = k
counted false k = min k 1

-- The count of a name is the sum of what the instances count that refer to it by the attribute.
pub data IsCount (s : Schema) (r : InverseRule) (name : ℕ) : List Instance → ℕ → Type 0 where
  none : IsCount s r name [] 0
  more : {i : Instance} {is : List Instance} {ns : List ℕ} {k all : ℕ} → RefersTo s r i ns → IsCount s r name is k → all ≡ counted r.is_bag (times name ns) + k → IsCount s r name (i ∷ is) all

-- the count is not above the highest, if there is one
abbrev pub is_below : Option ℕ → ℕ → Bool
is_below None k = true
is_below (Some high) k = nat_le k high

-- the count is within the bounds
abbrev pub is_within : InverseRule → ℕ → Bool
is_within r k = nat_le r.low k && is_below r.high k

-- the count that an instance has among all under a rule: none where it is not of the rule's entity
abbrev pub HasCount : Schema → InverseRule → List Instance → Instance → Option ℕ → Type 0
HasCount s r is i None = ¬ (IsOf s i (entity_name s r.entity))
HasCount s r is i (Some k) = IsOf s i (entity_name s r.entity) × IsCount s r i.name is k

-- a count that is not within the bounds is a fault, by the rule of this number
abbrev pub count_fault : (at rule : ℕ) → InverseRule → Option ℕ → List InverseCount
count_fault at rule r None = []
count_fault at rule r (Some k) = if is_within r k then [] else record { at = at; rule = rule; count = k } ∷ []

-- the faults of an instance among all, by the rules from this number on
pub data AreCountsAt (s : Schema) (is : List Instance) (i : Instance) : ℕ → List InverseRule → List InverseCount → Type 0 where
  none : {number : ℕ} → AreCountsAt s is i number [] []
  more : {number : ℕ} {r : InverseRule} {rs : List InverseRule} {fs all : List InverseCount} (found : Option ℕ) → HasCount s r is i found → AreCountsAt s is i (number + 1) rs fs
      → all ≡ count_fault i.at number r found ++ fs → AreCountsAt s is i number (r ∷ rs) all

-- the faults of some instances among all: those of the first of them, and then those of the rest
pub data AreCountsOf (s : Schema) (rules : List InverseRule) (is : List Instance) : List Instance → List InverseCount → Type 0 where
  none : AreCountsOf s rules is [] []
  more : {i : Instance} {js : List Instance} {fs gs all : List InverseCount} → AreCountsAt s is i 0 rules fs → AreCountsOf s rules is js gs → all ≡ fs ++ gs → AreCountsOf s rules is (i ∷ js) all

-- the faults of the instances of a file by these rules
-- Of each instance in turn those by each attribute in turn whose bounds its count is not within, at its place.
abbrev pub AreInverseCounts : Schema → List InverseRule → List Instance → List InverseCount → Type 0
AreInverseCounts s rules is fs = AreCountsOf s rules is is fs
