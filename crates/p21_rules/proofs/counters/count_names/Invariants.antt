use Rattle.std.proofs.Common.{◌≡◌, ℕ, nat_eq, drop}
use Rattle.indexmap.specs.IndexMap.{get}
use Rattle.p21_rules.specs.Counters.{counter_after}
use Rattle.p21_rules.specs.InverseCount.{times}
use Rattle.p21_rules.proofs.counters.count_names.Given as goal

-- with the names that are left, all are counted
abbrev pub invariant-loop-name : goal.invariant-loop-name
invariant-loop-name l = (n : ℕ) →
    counter_after l.is_bag l.place (times n (drop l.name-index l.names)) (get nat_eq l.counters n) ≡ counter_after l.is_bag l.place (times n l.names) (get nat_eq l.initial.counters n)
