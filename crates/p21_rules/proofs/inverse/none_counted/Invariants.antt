use Rattle.std.proofs.Common.{◌≡◌, length}
use Rattle.std.specs.Prelude.{All}
use Rattle.indexmap.specs.IndexMap.{IsEmpty}
use Rattle.p21_rules.proofs.inverse.none_counted.Given as goal

-- there are as many as rules so far, and all are empty
abbrev pub invariant-loop : goal.invariant-loop
invariant-loop l = record {
  long : length l.all.items ≡ l.index;
  empty : All (λ counters. IsEmpty counters) l.all.items;
}
