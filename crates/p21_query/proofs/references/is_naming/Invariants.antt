use Rattle.std.proofs.Common.{drop}
use Rattle.p21_tree.specs.Views.{plain_record}
use Rattle.p21_check.specs.Sets.{AnyIn}
use Rattle.p21_query.specs.Names.{HasNameIn}
use Rattle.p21_query.proofs.references.is_naming.Given as goal

-- a record that has the name is among those that are left
abbrev pub invariant-loop-record : goal.invariant-loop-record
invariant-loop-record l =
    AnyIn l.record-items (λ r. HasNameIn l.name (plain_record r).params) → AnyIn (drop l.record-index l.record-items) (λ r. HasNameIn l.name (plain_record r).params)
