use Rattle.std.proofs.Common.{sym, ◌∙◌}
use Rattle.p21_rule_text.specs.Entities.{entities_at}
use Rattle.p21_rule_text.proofs.ClauseLemmas.{ended_none}
use Rattle.p21_rule_text.proofs.entities.entities.Goals as goal

pub returns-then-not-is_empty : goal.returns-then-not-is_empty
unfolding entities_at
returns-then-not-is_empty c = rw (c.syntax.ensures, c.in_ok-word.ensures, c.in_ok-rest.ensures, c.in_ok-entities.ensures, c.in_ok-word-2.ensures, c.in_ok-rest-2.ensures) (ended_none c.in_ok-rest-2.rest.now _ (sym c.is_empty.ensures ∙ c.if-not-is_empty.true))
