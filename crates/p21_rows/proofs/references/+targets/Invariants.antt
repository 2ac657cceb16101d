use Rattle.std.proofs.Common.{◌≡◌, ◌++◌, drop}
use Rattle.p21_tree.specs.Plain.{plain_all}
use Rattle.p21_rows.specs.Rows.{all_targets}
use Rattle.p21_rows.proofs.references.+targets.Given as goal

abbrev pub invariant-push_all_targets-loop-param : goal.invariant-push_all_targets-loop-param
invariant-push_all_targets-loop-param l = l.initial.targets.items ++ all_targets (plain_all l.params) ≡ l.targets.items ++ all_targets (plain_all (drop l.param-index l.params))
