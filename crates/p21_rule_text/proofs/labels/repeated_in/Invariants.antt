use Rattle.std.proofs.Common.{map}
use Rattle.p21_rule_text.specs.Clauses.{plain_unique}
use Rattle.p21_rule_text.proofs.LabelLemmas.{DistinctBefore}
use Rattle.p21_rule_text.proofs.labels.repeated_in.Given as goal

abbrev pub invariant-loop-index : goal.invariant-loop-index
invariant-loop-index l = DistinctBefore (map plain_unique l.rules) l.index
