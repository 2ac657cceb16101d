-- The faults of a model by the rules of its schema, in their order.
use Rattle.std.specs.Prelude.{ℕ, List, ◌++◌, map}
use Rattle.std.specs.List.Sorted.{IsNonDecreasingBy, IsPermutation, IsStableByKey}
use Rattle.std.specs.Ordering.{nat_cmp}
use Rattle.p21_tree.specs.Sentence.{Instance}
use Rattle.p21_express.specs.Schema.{Schema}
use Rattle.p21_rules.specs.declared.inverse.InverseCount.{InverseCount}
use Rattle.p21_rules.specs.declared.unique.NotUnique.{NotUnique}
use Rattle.p21_rules.specs.InverseCount.{AreInverseCounts, AreInverseRulesOf}
use Rattle.p21_rules.specs.NotUnique.{AreFaults, AreRulesOf}
use Rattle.p21_rule_text.specs.declared.rules.Rules.{Rules}
use Rattle.p21_rule_run.specs.declared.rule_fault.RuleFault.{RuleFault}
use Rattle.p21_rule_run.specs.declared.rule_fault.RuleFault.TheVariants as fault

-- the place of the instance that is at fault
abbrev pub place_of : RuleFault → ℕ
place_of (fault.NotUnique f) = f.at
place_of (fault.InverseCount f) = f.at

-- the faults of both kinds, those of UNIQUE in front
abbrev pub both : List NotUnique → List InverseCount → List RuleFault
both fs gs = map fault.NotUnique fs ++ map fault.InverseCount gs

-- The faults of both kinds are sorted by their places; those at one place stay in their order.
pub record AreSorted (fs : List NotUnique) (gs : List InverseCount) (all : List RuleFault) : Type 0 where
  pub permutation : IsPermutation (both fs gs) all
  pub sorted : IsNonDecreasingBy place_of all
  pub stable : IsStableByKey place_of nat_cmp (both fs gs) all

-- the rules are of this schema
pub record AreRulesIn (s : Schema) (rules : Rules) : Type 0 where
  pub unique : AreRulesOf s rules.unique.items
  pub inverse : AreInverseRulesOf s rules.inverse.items

-- the faults of the instances of a file by the rules
-- Those of UNIQUE, then those of INVERSE attributes, sorted.
pub record AreRuleFaults (s : Schema) (rules : Rules) (is : List Instance) (all : List RuleFault) : Type 0 where
  pub not_unique : List NotUnique
  pub inverse_counts : List InverseCount
  pub unique : AreFaults s rules.unique.items is not_unique
  pub inverse : AreInverseCounts s rules.inverse.items is inverse_counts
  pub sorted : AreSorted not_unique inverse_counts all
