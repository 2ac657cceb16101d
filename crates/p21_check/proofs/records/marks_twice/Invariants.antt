use Rattle.std.proofs.Common.{◌<◌, ℕ, take}
use Rattle.p21_check.specs.Sets.{keywords_of, AreMarksOfRecords}
use Rattle.p21_check.specs.Instances.{IsNamedBefore}
use Rattle.p21_check.proofs.records.marks_twice.Given as goal

-- none so far has the keyword of an earlier one, and their entities are marked
abbrev pub invariant-loop-k : goal.invariant-loop-k
invariant-loop-k l = record {
  once : (b : ℕ) → b < l.k → ¬ (IsNamedBefore (keywords_of l.records) b);
  marked : AreMarksOfRecords l.schema l.marks (take l.k l.records);
}
