use Rattle.std.proofs.Common.{[], map, subst}
use Rattle.std.proofs.lemmas.Result.{err_from_is_err_and}
use Rattle.p21_rules.specs.declared.rule.InverseRule.{InverseRule}
use Rattle.p21_rule_text.specs.Clauses.{plain_inverse}
use Rattle.p21_rule_text.specs.Entities.{plain_clauses}
use Rattle.p21_rule_text.specs.Resolve.{IsMeant}
use Rattle.p21_rule_text.specs.Statements.{IsUncounted, no_numbers, other}
use Rattle.p21_rule_text.proofs.InverseLemmas.{passing, stated}
use Rattle.p21_rule_text.proofs.RefusalLemmas.{no_attribute, no_declarer, no_source, not_declarable, on_along, on_any}
use Rattle.p21_rule_text.proofs.SchemaLemmas.{is_attribute}
use Rattle.p21_rule_text.proofs.inverse.inverse_statement.Goals as goal
use Rattle.p21_rule_text.proofs.inverse.inverse_statement.Goals.{in_default-None-via-in-Other+in-None, in_default-None-via-in-Explicit+in-None}

pub rule_statement-requires : goal.rule_statement-requires
rule_statement-requires c =
    let clause = plain_inverse c.args.clause.now in
    let meant = subst (IsMeant c.args.known.schema.now (map plain_clauses c.args.known.clauses.now) c.in_ok-source.source clause.attribute) c.in-Explicit-Some.is-0 c.resolve-found.ensures in
    record { entity = c.in_ok-entity.ensures.ok.known; source = c.in_ok-source.ensures.ok.known; attribute = is_attribute c.args.known.schema.now (map plain_clauses c.args.known.clauses.now) c.in_ok-source.source clause.attribute c.in-Explicit-Some.attribute meant }

pub returns-in-Explicit-Some-clause-ok : goal.returns-in-Explicit-Some-clause-ok
returns-in-Explicit-Some-clause-ok c =
    let s = c.args.known.schema.now in
    let es = map plain_clauses c.args.known.clauses.now in
    let clause = plain_inverse c.args.clause.now in
    let meant = subst (IsMeant s es c.in_ok-source.source clause.attribute) c.in-Explicit-Some.is-0 c.resolve-found.ensures in
    let rule : InverseRule = record { entity = c.in_ok-entity.entity; source = c.in_ok-source.source; attribute = c.in-Explicit-Some.attribute; is_bag = c.in-Explicit-Some.bounds.is_bag; low = c.in-Explicit-Some.bounds.low; high = c.in-Explicit-Some.bounds.high } in
    stated s es c.args.entity.now clause rule c.rule_statement.result (record { entity = c.in_ok-entity.ensures.ok; declarable = c.if-not-is_declarable.ensures; bounds = c.in-Explicit-Some.is-1; source = c.in_ok-source.ensures.ok; attribute = meant }) c.rule_statement.ensures.ok

pub returns-in-Other-Some-clause-ok : goal.returns-in-Other-Some-clause-ok
returns-in-Other-Some-clause-ok c =
    let s = c.args.known.schema.now in
    let es = map plain_clauses c.args.known.clauses.now in
    let clause = plain_inverse c.args.clause.now in
    passing s es c.args.entity.now c.in_ok-entity.entity c.in_ok-source.source clause c.resolve-found.result clause.attribute.name [] c.passed_over.result c.in_ok-entity.ensures.ok c.if-not-is_declarable.ensures c.in_ok-source.ensures.ok c.resolve-found.ensures (rw (c.in-Other-Some.is-1, c.in-Other-Some.is-0) other) c.passed_over.ensures.ok

pub returns-in_default-None-clause-ok : goal.returns-in_default-None-clause-ok
returns-in_default-None-clause-ok c =
    let s = c.args.known.schema.now in
    let es = map plain_clauses c.args.known.clauses.now in
    let clause = plain_inverse c.args.clause.now in
    let uncounted : IsUncounted s c.in_ok-source.source clause.attribute.name clause.bounds c.resolve-found.result [] [] = elim c.in_default-None.branch [ in_default-None-via-in-Other+in-None w ↦ rw w.in_default-None.is-1 (no_numbers w.in_default-None.not-Nothing-0) | in_default-None-via-in-Explicit+in-None w ↦ rw w.in_default-None.is-1 (no_numbers w.in_default-None.not-Nothing-0) ] in
    passing s es c.args.entity.now c.in_ok-entity.entity c.in_ok-source.source clause c.resolve-found.result [] [] c.passed_over-in_default-None.result c.in_ok-entity.ensures.ok c.if-not-is_declarable.ensures c.in_ok-source.ensures.ok c.resolve-found.ensures uncounted c.passed_over-in_default-None.ensures.ok

pub returns-then-not-is_declarable-clause-refused : goal.returns-then-not-is_declarable-clause-refused
returns-then-not-is_declarable-clause-refused c = on_any c.unknown_attribute.result _ (not_declarable c.args.known.schema.now (map plain_clauses c.args.known.clauses.now) c.args.entity.now (plain_inverse c.args.clause.now) c.in_ok-entity.entity c.one_id.ensures.entities c.in_ok-entity.ensures.ok c.if-not-is_declarable.ensures)

pub returns-in-Nothing-default-clause-refused : goal.returns-in-Nothing-default-clause-refused
returns-in-Nothing-default-clause-refused c =
    let s = c.args.known.schema.now in
    let es = map plain_clauses c.args.known.clauses.now in
    let clause = plain_inverse c.args.clause.now in
    on_any c.unknown.result _ (no_attribute s es c.args.entity.now clause c.in_ok-source.source c.one_id.ensures.entities c.one_meaning.ensures c.in_ok-source.ensures.ok (subst (IsMeant s es c.in_ok-source.source clause.attribute) c.in-Nothing-default.is-0 c.resolve-found.ensures))

pub returns-in_err-source-clause-refused : goal.returns-in_err-source-clause-refused
returns-in_err-source-clause-refused c =
    let p = err_from_is_err_and c.from_residual-in_err-source.result c.from_residual-in_err-source.ensures.1 in
    rw (p.1, p.2) (on_along c.in_err-source.field-0.0 _ _ (no_source c.args.known.schema.now (map plain_clauses c.args.known.clauses.now) c.args.entity.now (plain_inverse c.args.clause.now)) c.in_err-source.ensures.refused)

pub returns-in_err-entity-clause-refused : goal.returns-in_err-entity-clause-refused
returns-in_err-entity-clause-refused c =
    let p = err_from_is_err_and c.from_residual.result c.from_residual.ensures.1 in
    rw (p.1, p.2) (on_along c.in_err-entity.field-0.0 _ _ (no_declarer c.args.known.schema.now (map plain_clauses c.args.known.clauses.now) c.args.entity.now (plain_inverse c.args.clause.now)) c.in_err-entity.ensures.refused)
