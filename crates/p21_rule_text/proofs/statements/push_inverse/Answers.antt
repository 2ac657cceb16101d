use Rattle.std.proofs.Common.{map, subst}
use Rattle.p21_rule_text.specs.Clauses.{plain_inverse}
use Rattle.p21_rule_text.specs.Entities.{plain_clauses}
use Rattle.p21_rule_text.specs.Rules.{AreStated}
use Rattle.p21_rule_text.specs.Statements.{inverse}
use Rattle.std.proofs.lemmas.Result.{err_from_is_err_and}
use Rattle.p21_rule_text.proofs.RefusalLemmas.{made_at, on_along}
use Rattle.p21_rule_text.proofs.StatementLemmas.{grown, stated_push}
use Rattle.p21_rule_text.proofs.statements.push_inverse.Goals as goal

pub loop-clause-preserved : goal.loop-clause-preserved
loop-clause-preserved c = λ cs are.
    let s = c.args.known.schema.now in
    let es = map plain_clauses c.args.known.clauses.now in
    let n = c.args.entity.now in
    let stated = stated_push s es _ _ c.push.new.self _ c.in_ok-inverse_statement.field-0 (c.loop-clause.invariant cs are) c.in_ok-inverse_statement.ensures.ok c.in_ok-push.ensures in
    subst (λ ds. AreStated s es ds c.push.new.self) (grown plain_inverse (inverse n) cs c.args.clauses.now c.loop-clause.clause-index _ c.loop-clause-test.true) stated

pub returns-in_err-inverse_statement-clause-refused : goal.returns-in_err-inverse_statement-clause-refused
returns-in_err-inverse_statement-clause-refused c =
    let p = err_from_is_err_and c.from_residual.result c.from_residual.ensures.1 in
    rw (p.1, p.2) (on_along c.in_err-inverse_statement.field-0.0 _ _ (λ none. (_, (made_at plain_inverse (inverse c.args.entity.now) c.args.clauses.now c.loop-clause.clause-index _ c.loop-clause-test.true, none))) c.in_err-inverse_statement.ensures.refused)
