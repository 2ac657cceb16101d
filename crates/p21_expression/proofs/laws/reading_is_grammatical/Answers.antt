use Rattle.p21_expression.specs.declared.operators.Precedence.TheVariants as precedence
use Rattle.p21_expression.proofs.RuleSound.{rule_sound, rules_sound}
use Rattle.p21_expression.proofs.SoundLemmas.{qualifiers_sound, reading_sound, simple_sound}
use Rattle.p21_expression.proofs.laws.reading_is_grammatical.Goals as goal

pub returns-clause-expression : goal.returns-clause-expression
returns-clause-expression c = λ ws x h. reading_sound 256 precedence.Relation ws x h

pub returns-clause-simple : goal.returns-clause-simple
returns-clause-simple c = λ ws x h. simple_sound ws x h

pub returns-clause-qualifiers : goal.returns-clause-qualifiers
returns-clause-qualifiers c = λ ws x h. qualifiers_sound ws x h

pub returns-clause-rule : goal.returns-clause-rule
returns-clause-rule c = λ ws x h. rule_sound ws x h

pub returns-clause-rules : goal.returns-clause-rules
returns-clause-rules c = λ last ws x h. rules_sound last ws x h
