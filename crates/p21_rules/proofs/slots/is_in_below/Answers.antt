use Rattle.p21_rules.proofs.slots.is_in_below.Goals as goal

pub returns-then-is_below : goal.returns-then-is_below
returns-then-is_below c = (λ t. (c.is_in_set.ensures.0 t, c.is_below.ensures.0 c.if-is_below.true), λ h. c.is_in_set.ensures.1 h.0)
