use Rattle.std.proofs.Common.{◌≡◌, map, take}
use Rattle.p21_rules.specs.declared.rule.UniqueRule.{UniqueRule}
use Rattle.p21_rules.proofs.unique.wanted_entities.Given as goal

-- those of the rules so far
abbrev pub invariant-loop-rule : goal.invariant-loop-rule
invariant-loop-rule l = l.wanted.items ≡ map (λ (r : UniqueRule). r.entity) (take l.rule-index l.rules)
