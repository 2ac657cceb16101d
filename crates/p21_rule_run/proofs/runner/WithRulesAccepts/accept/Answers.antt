use Rattle.std.proofs.Common.{subst}
use Rattle.p21_express.specs.Answer.{OnRefusal}
use Rattle.p21_rule_text.specs.Rules.{HasNoRules}
use Rattle.p21_rule_run.proofs.runner.WithRulesAccepts.accept.Goals as goal

pub returns-in-Err-clause-refused : goal.returns-in-Err-clause-refused
returns-in-Err-clause-refused c = subst (λ s. OnRefusal c.in-Err.error (HasNoRules s c.args.text.now)) c.in_ok-schema.ensures c.in-Err.ensures.refused
