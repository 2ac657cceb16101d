use Rattle.std.proofs.Common.{map, take}
use Rattle.std.specs.List.{AllByRecursion}
use Rattle.p21_rule_text.specs.Entities.{plain_clauses}
use Rattle.p21_rule_text.specs.Rules.{HaveDistinctLabels}
use Rattle.p21_rule_text.proofs.labels.repeated_label.Given as goal

abbrev pub invariant-loop-entity : goal.invariant-loop-entity
invariant-loop-entity l = AllByRecursion (λ e. HaveDistinctLabels e.unique) (map plain_clauses (take l.entity-index l.clauses))
