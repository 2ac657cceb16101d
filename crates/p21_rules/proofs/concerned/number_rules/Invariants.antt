use Rattle.std.proofs.Common.{◌++◌, ℕ, List, drop}
use Rattle.p21_rules.specs.Concerned.{AreConcerned}
use Rattle.p21_rules.specs.Named.{AreNamed}
use Rattle.p21_rules.proofs.concerned.number_rules.Given as goal

-- the numbers so far, and those of the entities that are left, are all
abbrev pub invariant-loop-number : goal.invariant-loop-number
invariant-loop-number l = (ks : List (List ℕ)) → AreNamed l.schema ks l.named → (ns : List ℕ) → AreConcerned l.schema ks l.number (drop l.number l.wanted) ns → AreConcerned l.schema ks 0 l.wanted (l.numbers.items ++ ns)
