use Rattle.std.proofs.Common.{◌≡◌, ℕ, List, drop, length, map}
use Rattle.p21_check.specs.EntitySet.{keywords}
use Rattle.p21_tree.specs.Sentence.{Instance}
use Rattle.p21_tree.specs.Views.{plain_instance}
use Rattle.p21_rules.specs.declared.rule.InverseRule.{InverseRule}
use Rattle.p21_rules.specs.Concerned.{AreConcerned}
use Rattle.p21_rules.specs.Counters.{CountAll}
use Rattle.p21_rules.specs.Firsts.{seen_below}
use Rattle.p21_rules.proofs.inverse.count_instance.Given as goal

-- the rules below a number counted the instance, and the numbers that are left are those of the others by which it may refer
abbrev pub invariant-loop-next : goal.invariant-loop-next
invariant-loop-next l = record {
  long : length l.all.items ≡ length l.rules;
  left : (k : ℕ) × AreConcerned l.schema (keywords (plain_instance l.instance)) k (map (λ (r : InverseRule). r.source) (drop k l.rules)) (drop l.next l.subject.numbers.now)
      × ((before : List Instance) → length before ≡ l.place → CountAll l.schema l.rules l.initial.all.items (λ k. before) → CountAll l.schema l.rules l.all.items (seen_below before (plain_instance l.instance) k));
}
