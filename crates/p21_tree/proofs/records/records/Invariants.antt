use Rattle.std.proofs.Common.{◌-◌, ◌≤◌, ◌<◌, length, map, vec_len}
use Rattle.p21_tree.specs.declared.faults.Fault.{Fault}
use Rattle.p21_tree.specs.Sentence.{IsRecords}
use Rattle.p21_tree.specs.Views.{plain_record}
use Rattle.p21_tree.specs.Parts.{MoreRecords, SomeRecords}
use Rattle.p21_tree.specs.Progress.{Covers, Fails}
use Rattle.p21_tree.proofs.records.records.Given as goal

abbrev pub decreases-records : goal.decreases-records
decreases-records l = length l.source.text.now - l.place

abbrev pub invariant-records : goal.invariant-records
invariant-records l = record {
  behind : l.at ≤ l.place;
  within : l.place ≤ length l.source.text.now;
  some : 0 < vec_len l.records;
  reads : Covers (λ ts. IsRecords 63 ts (map plain_record l.records.items)) l.source l.at l.place;
  faults : (f : Fault) → Fails MoreRecords 63 l.source l.place f → Fails SomeRecords 63 l.source l.at f;
}
