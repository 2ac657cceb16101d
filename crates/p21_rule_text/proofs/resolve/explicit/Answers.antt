use Rattle.p21_rule_text.specs.Resolve.{IsAttribute}
use Rattle.p21_rule_text.proofs.resolve.explicit.Goals as goal

pub returns-then-is_derived_above : goal.returns-then-is_derived_above
returns-then-is_derived_above c = IsAttribute.is_derived c.if-is_derived_above.ensures

pub returns-else-is_derived_above : goal.returns-else-is_derived_above
returns-else-is_derived_above c = IsAttribute.not_derived c.if-is_derived_above.ensures
