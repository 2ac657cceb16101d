use Rattle.std.proofs.Common.{sym, subst}
use Rattle.p21_rule_text.specs.Entities.{plain_clauses}
use Rattle.p21_rule_text.specs.Rules.{HaveDistinctLabels}
use Rattle.p21_rule_text.specs.declared.entities.EntityClauses as source
use Rattle.p21_rule_text.proofs.LabelLemmas.{all_at, all_more, all_taken}
use Rattle.p21_rule_text.proofs.labels.repeated_label.Goals as goal

pub returns-in-Some : goal.returns-in-Some
returns-in-Some c = λ all.
    let here = rw c.deref.ensures.value at c.in-Some.ensures in
    here (subst (λ (x : source.EntityClauses). HaveDistinctLabels (plain_clauses x).unique) (sym c.entity-item.is) (all_at (λ e. HaveDistinctLabels e.unique) plain_clauses c.args.clauses.now c.loop-entity.entity-index c.entity-item.result c.loop-entity-test.true all))

pub loop-entity-preserved : goal.loop-entity-preserved
loop-entity-preserved c =
    let here = rw c.deref.ensures.value at c.in_default.ensures in
    all_more (λ e. HaveDistinctLabels e.unique) plain_clauses c.args.clauses.now c.loop-entity.entity-index c.entity-item.result c.loop-entity-test.true c.loop-entity.invariant (subst (λ (x : source.EntityClauses). HaveDistinctLabels (plain_clauses x).unique) c.entity-item.is here)

pub returns : goal.returns
returns c = all_taken (λ e. HaveDistinctLabels e.unique) plain_clauses c.args.clauses.now c.loop-entity.entity-index c.loop-entity-test.false c.loop-entity.invariant
