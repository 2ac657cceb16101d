use Rattle.std.proofs.Common.{sym, ◌∙◌}
use Rattle.std.proofs.lemmas.Bool.{false≢true}
use Rattle.p21_rules.proofs.SlotLemmas.{on_counted}
use Rattle.p21_rules.proofs.slots.agrees.Goals as goal

pub counts-requires-clause-entity : goal.counts-requires-clause-entity
counts-requires-clause-entity c = c.requires.declaration.1.known

pub is_value_by-requires-clause-form : goal.is_value_by-requires-clause-form
is_value_by-requires-clause-form c = (c.requires.declaration.0.form, c.requires.declaration.1.form)

pub returns-then-not-counts : goal.returns-then-not-counts
returns-then-not-counts c = λ ds d v z r e k. absurd (false≢true (sym c.if-not-counts.true ∙ (c.counts.ensures ds d z r.entity).1 k))

pub returns : goal.returns
returns c = λ ds d v z r e. on_counted c.is_value_by.result _ ((c.counts.ensures ds d z r.entity).0 c.if-not-counts.false) (c.is_value_by.ensures d.form v r.form e)
