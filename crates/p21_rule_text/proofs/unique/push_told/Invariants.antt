use Rattle.p21_rule_text.proofs.TellingLemmas.{IsToldOf}
use Rattle.p21_rule_text.proofs.unique.push_told.Given as goal

abbrev pub invariant-loop-subtype : goal.invariant-loop-subtype
invariant-loop-subtype l = IsToldOf l.fn.schema l.fn.below.rule.now l.fn.below.label.now l.fn.attribute l.subtype-items l.subtype-index l.initial.told.items l.told.items
