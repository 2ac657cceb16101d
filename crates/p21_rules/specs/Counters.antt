-- What is kept of the references that were counted.
use Rattle.std.specs.Prelude.{◌≡◌, ◌+◌, ◌<◌, ◌||◌, ℕ, zero, suc, Bool, not, List, length, Option, None, Some, IfSome, nat_eq, if◌then◌else◌, slice_get}
use Rattle.indexmap.specs.IndexMap.{IndexMap, get}
use Rattle.p21_express.specs.Schema.{Schema}
use Rattle.p21_tree.specs.Sentence.{Instance}
use Rattle.p21_rules.specs.declared.rule.InverseRule.{InverseRule}
use Rattle.p21_rules.specs.declared.counters.Counter.{Counter}
use Rattle.p21_rules.specs.InverseCount.{IsCount, times}

-- the counter after one more reference from the instance at a place
abbrev pub next_counter : (bag : Bool) → (place : ℕ) → Option Counter → Counter
next_counter bag place None = record { count = 1; last = place }
next_counter bag place (Some c) = if bag || not (nat_eq c.last place) then record { count = c.count + 1; last = place } else c

-- the counter after so many more
abbrev pub counter_after : (bag : Bool) → (place : ℕ) → ℕ → Option Counter → Option Counter
counter_after bag place zero c = c
counter_after bag place (suc k) c = counter_after bag place k (Some (next_counter bag place c))

-- the counters after references to these names
abbrev pub AreCounted : {S : Type 0} → (bag : Bool) → (place : ℕ) → List ℕ → IndexMap ℕ Counter S → IndexMap ℕ Counter S → Type 0
AreCounted bag place names old new = (n : ℕ) → get nat_eq new n ≡ counter_after bag place (times n names) (get nat_eq old n)

-- the count of a counter
abbrev pub count_of : Option Counter → ℕ
count_of None = 0
count_of (Some c) = c.count

-- the counters have the count of each name by the rule over these instances, of which none after them was the last
abbrev pub Counts : {S : Type 0} → Schema → InverseRule → List Instance → IndexMap ℕ Counter S → Type 0
Counts s r is counters = (n : ℕ) → IsCount s r n is (count_of (get nat_eq counters n)) × IfSome (get nat_eq counters n) (λ c. c.last < length is)

-- each rule has counters, of the instances that were seen by the rule of this number
pub record CountAll {S : Type 0} (s : Schema) (rules : List InverseRule) (all : List (IndexMap ℕ Counter S)) (seen : ℕ → List Instance) : Type 0 where
  pub long : length all ≡ length rules
  pub each : (k : ℕ) (r : InverseRule) (counters : IndexMap ℕ Counter S) → slice_get rules k ≡ Some r → slice_get all k ≡ Some counters → Counts s r (seen k) counters
