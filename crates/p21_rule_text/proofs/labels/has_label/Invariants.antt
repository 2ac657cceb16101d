use Rattle.std.proofs.Common.{◌≡◌, Some, drop}
use Rattle.p21_rule_text.specs.Clauses.{plain_unique}
use Rattle.p21_rule_text.proofs.ResolveLemmas.{OfOne}
use Rattle.p21_rule_text.proofs.labels.has_label.Given as goal

abbrev pub invariant-loop-rule : goal.invariant-loop-rule
invariant-loop-rule l = let One = OfOne plain_unique (λ c. c.label ≡ Some l.label) in One l.rules → One (drop l.rule-index l.rules)
