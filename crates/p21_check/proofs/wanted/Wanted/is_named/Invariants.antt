use Rattle.std.proofs.Common.{map, take}
use Rattle.p21_tree.specs.Views.{plain_record}
use Rattle.p21_check.specs.Wanted.{IsNamed}
use Rattle.p21_check.proofs.wanted.Wanted.is_named.Given as goal

-- none before the record is wanted
abbrev pub invariant-loop-record : goal.invariant-loop-record
invariant-loop-record l = ¬ (IsNamed l.schema l.self (map (λ e. e.keyword) (map plain_record (take l.record-index l.records))))
