use Rattle.std.proofs.Common.{◌≡◌, Some, subst}
use Rattle.p21_rule_text.specs.Clauses.{UniqueClause as Plain, plain_unique}
use Rattle.p21_rule_text.specs.declared.clauses.UniqueClause.{UniqueClause}
use Rattle.p21_rule_text.proofs.ResolveLemmas.{of_one, of_others}
use Rattle.p21_rule_text.proofs.labels.has_label.Goals as goal

pub returns-then-is_labelled : goal.returns-then-is_labelled
returns-then-is_labelled c =
    let IsSought : Plain → Type 0 = λ r. r.label ≡ Some c.args.label.now in
    of_one plain_unique IsSought c.args.rules.now c.loop-rule.rule-index c.rule-item.result c.loop-rule-test.true (subst (λ (r : UniqueClause). IsSought (plain_unique r)) c.rule-item.is c.if-is_labelled.ensures)

pub loop-rule-preserved : goal.loop-rule-preserved
loop-rule-preserved c =
    let IsSought : Plain → Type 0 = λ r. r.label ≡ Some c.args.label.now in
    λ h. of_others plain_unique IsSought c.args.rules.now c.loop-rule.rule-index c.rule-item.result c.loop-rule-test.true (subst (λ (r : UniqueClause). ¬ (IsSought (plain_unique r))) c.rule-item.is c.if-is_labelled.ensures) (c.loop-rule.invariant h)
