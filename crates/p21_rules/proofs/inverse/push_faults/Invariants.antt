use Rattle.std.proofs.Common.{ℕ, List, drop, map}
use Rattle.p21_check.specs.EntitySet.{keywords}
use Rattle.p21_tree.specs.Sentence.{Instance}
use Rattle.p21_tree.specs.Views.{plain_instance}
use Rattle.p21_rules.specs.declared.rule.InverseRule.{InverseRule}
use Rattle.p21_rules.specs.Concerned.{AreConcerned}
use Rattle.p21_rules.specs.Counters.{CountAll}
use Rattle.p21_rules.proofs.InverseLemmas.{IsFaultedBelow}
use Rattle.p21_rules.proofs.inverse.push_faults.Given as goal

-- the faults by the rules below a number were added, and the numbers that are left are those of the others that concern the instance
abbrev pub invariant-loop-place : goal.invariant-loop-place
invariant-loop-place l =
    (k : ℕ) × AreConcerned l.schema (keywords (plain_instance l.instance)) k (map (λ (r : InverseRule). r.entity) (drop k l.rules)) (drop l.place l.subject.numbers.now)
    × ((is : List Instance) → CountAll l.schema l.rules l.all (λ k. is) → IsFaultedBelow l.schema l.rules is (plain_instance l.instance) l.initial.faults.items l.faults.items k)
