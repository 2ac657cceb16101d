use Rattle.std.proofs.Common.{List, ℕ, subst}
use Rattle.std.specs.Prelude.{IfOk}
use Rattle.p21_schema.specs.Row.{attribute_at}
use Rattle.p21_rule_text.specs.Clauses.{plain_inverse}
use Rattle.p21_rule_text.specs.Resolve.{AreDerivers}
use Rattle.p21_rule_text.specs.Statements.{IsStatementOf}
use Rattle.p21_rule_text.proofs.InverseLemmas.{IsPassing, first_of, none_of, passing_below}
use Rattle.p21_rule_text.proofs.inverse.rule_statement.Goals as goal

pub returns-then-is_any-clause-ok : goal.returns-then-is_any-clause-ok
returns-then-is_any-clause-ok c = IsStatementOf.within c.if-is_any.ensures

pub returns-in-Some-clause-ok : goal.returns-in-Some-clause-ok
returns-in-Some-clause-ok c =
    let s = c.args.known.schema.now in
    let clause = plain_inverse c.args.clause.now in
    let rule = c.args.rule in
    let first = first_of c.in_ok-subtypes.subtypes.items c.in-Some.subtype.now (rw c.deref.ensures.value at c.in-Some.ensures.value) in
    let are = subst (AreDerivers s rule.source (attribute_at s rule.attribute)) first.1 c.in_ok-subtypes.ensures in
    passing_below s clause rule c.in-Some.subtype.now first.0 c.passed_over.result c.if-is_any.ensures are (subst (λ (n : List ℕ). IfOk c.passed_over.result (IsPassing clause rule.entity clause.attribute.name n)) c.name_of-subtype.ensures c.passed_over.ensures.ok)

pub returns-clause-ok : goal.returns-clause-ok
returns-clause-ok c =
    let s = c.args.known.schema.now in
    let rule = c.args.rule in
    let none = none_of c.in_ok-subtypes.subtypes.items (rw c.deref.ensures.value at c.in-None.ensures.value) in
    IsStatementOf.looked_at (record { bounds = c.if-is_any.ensures; derivers = subst (AreDerivers s rule.source (attribute_at s rule.attribute)) none c.in_ok-subtypes.ensures }) c.in_ok-name-in-None.ensures.items
