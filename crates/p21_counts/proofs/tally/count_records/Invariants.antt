use Rattle.std.proofs.Common.{List, ℕ, ◌++◌, map, take}
use Rattle.p21_counts.specs.Tally.{CountsOf}
use Rattle.p21_counts.proofs.tally.count_records.Given as goal

abbrev pub invariant-loop-record : goal.invariant-loop-record
invariant-loop-record l = (ks : List (List ℕ)) → CountsOf l.initial.keywords ks → CountsOf l.keywords (ks ++ map (λ r. r.keyword.now) (take l.record-index l.records))
