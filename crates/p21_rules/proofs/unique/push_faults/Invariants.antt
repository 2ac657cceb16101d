use Rattle.std.proofs.Common.{ℕ, List, drop, map}
use Rattle.p21_check.specs.EntitySet.{keywords}
use Rattle.p21_tree.specs.Sentence.{Instance}
use Rattle.p21_tree.specs.Views.{plain_instance}
use Rattle.p21_rules.specs.declared.rule.UniqueRule.{UniqueRule}
use Rattle.p21_rules.specs.Concerned.{AreConcerned}
use Rattle.p21_rules.specs.Firsts.{Holds}
use Rattle.p21_rules.proofs.FirstLemmas.{IsLookedAt}
use Rattle.p21_rules.proofs.unique.push_faults.Given as goal

-- the rules below a number looked at the instance, and the numbers that are left are those of the others that concern it
abbrev pub invariant-loop-place : goal.invariant-loop-place
invariant-loop-place l =
    (k : ℕ) × AreConcerned l.schema (keywords (plain_instance l.instance)) k (map (λ (r : UniqueRule). r.entity) (drop k l.rules)) (drop l.place l.subject.numbers.now)
    × ((before : List Instance) → Holds l.schema l.rules l.initial.firsts (λ k. before) → IsLookedAt l.schema l.rules before (plain_instance l.instance) l.firsts l.initial.faults.items l.faults.items k)
