use Rattle.std.proofs.Common.{Bor, List, map}
use Rattle.std.specs.Prelude.{Vec}
use Rattle.std.specs.declared.alloc.Global.{Global}
use Rattle.p21_express.specs.declared.word.Word as source
use Rattle.p21_express.specs.Reader.{words_of}
use Rattle.p21_expression.specs.declared.rules.DomainRule as source_rule
use Rattle.p21_expression.specs.Rules.{plain_rule}
use Rattle.p21_expression.proofs.RuleSound.{ok_rules}
use Rattle.p21_expression.proofs.rules.domain_rules.Goals as goal

pub returns-clause-reading : goal.returns-clause-reading
returns-clause-reading c = ok_rules (λ (x : Vec source_rule.DomainRule Global × Bor (List source.Word)). (map plain_rule x.0.items, words_of x.1.now)) c.rules_up_to.result c.args.last.now (words_of c.args.words.now) c.rules_up_to.ensures
