use Rattle.std.proofs.Common.{Bor, List}
use Rattle.p21_express.specs.declared.word.Word as source
use Rattle.p21_express.specs.Reader.{words_of}
use Rattle.p21_expression.specs.declared.rules.DomainRule as source_rule
use Rattle.p21_expression.specs.Rules.{plain_rule}
use Rattle.p21_expression.proofs.RuleSound.{ok_rule}
use Rattle.p21_expression.proofs.rules.domain_rule.Goals as goal

pub returns-clause-reading : goal.returns-clause-reading
returns-clause-reading c = ok_rule (λ (x : source_rule.DomainRule × Bor (List source.Word)). (plain_rule x.0, words_of x.1.now)) c.rule.result (words_of c.args.words.now) c.rule.ensures
