use Rattle.std.proofs.Common.{◌≡◌, List, length}
use Rattle.p21_express.specs.WellFormed.{Origin}
use Rattle.p21_tree.specs.Views.{plain_instance}
use Rattle.p21_json.specs.Rows.{AreAttributesOf}
use Rattle.p21_rows.proofs.RowLemmas.{AddedUpTo}
use Rattle.p21_rows.proofs.records.push_values.Given as goal

abbrev pub invariant-loop-position : goal.invariant-loop-position
invariant-loop-position l =
    (os : List Origin) → AreAttributesOf l.terms l.instance.complex l.entity os → l.count ≡ length os
    → AddedUpTo l.terms (plain_instance l.instance) os l.params l.initial.cells.items l.cells.items l.position
