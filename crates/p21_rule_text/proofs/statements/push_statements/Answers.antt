use Rattle.std.proofs.Common.{subst}
use Rattle.std.proofs.lemmas.Result.{err_from_is_err_and}
use Rattle.p21_express.specs.WellFormed.{IsIn}
use Rattle.p21_rule_text.specs.Entities.{plain_clauses}
use Rattle.p21_rule_text.specs.Statements.{clauses_of}
use Rattle.p21_rule_text.proofs.RefusalLemmas.{among_all, on_along}
use Rattle.p21_rule_text.proofs.statements.push_statements.Goals as goal

pub returns-in_err-push_entity-clause-refused : goal.returns-in_err-push_entity-clause-refused
returns-in_err-push_entity-clause-refused c =
    let es = c.args.known.clauses.now in
    let k = c.loop-entity.entity-index in
    let x = c.entity-item.result in
    let p = err_from_is_err_and c.from_residual.result c.from_residual.ensures.1 in
    rw (p.1, p.2) (on_along c.in_err-push_entity.field-0.0 _ _ (λ none. (none.0, (among_all plain_clauses es k x none.0 c.loop-entity-test.true (subst (λ y. IsIn (clauses_of (plain_clauses y)) none.0) c.entity-item.is none.1.0), none.1.1))) c.in_err-push_entity.ensures.refused)
