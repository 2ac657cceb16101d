use Rattle.std.proofs.Common.{List, ℕ, map, refl, sym, subst}
use Rattle.std.specs.List.{AllZip}
use Rattle.p21_express.specs.Naming.{plain_namings}
use Rattle.p21_express.specs.declared.names.AttrName.{AttrName}
use Rattle.p21_rules.specs.declared.rule.UniqueRule.{UniqueRule}
use Rattle.p21_rule_text.specs.Clauses.{plain_unique}
use Rattle.p21_rule_text.specs.Entities.{plain_clauses}
use Rattle.p21_rule_text.specs.Statements.{AreTold, IsFirst, unique_rule, unique_passed}
use Rattle.p21_rule_text.specs.Unique.{AreAttributes, IsNamedAs}
use Rattle.p21_rule_text.specs.declared.resolve.Found.TheVariants as found
use Rattle.std.proofs.lemmas.Result.{err_from_is_err_and}
use Rattle.p21_rule_text.proofs.SchemaLemmas.{is_rule}
use Rattle.p21_rule_text.proofs.TellingLemmas.{named_as}
use Rattle.p21_rule_text.proofs.RefusalLemmas.{no_owner, on_along, unknown_name}
use Rattle.p21_rule_text.proofs.unique.unique_statement.Goals as goal

pub told-requires-clause-rule : goal.told-requires-clause-rule
told-requires-clause-rule c =
    let s = c.args.known.schema.now in
    let es = map plain_clauses c.args.known.clauses.now in
    let names = plain_namings c.args.clause.now.names.items in
    let named = rw c.deref.ensures.value at c.in_ok-attributes.ensures.ok in
    let explicit = subst (AreAttributes s es c.in_ok-entity.entity names) c.in-Explicit.is named in
    is_rule s es names _ c.in_ok-entity.ensures.ok.known explicit

pub told-requires-clause-names : goal.told-requires-clause-names
told-requires-clause-names c =
    let s = c.args.known.schema.now in
    let es = map plain_clauses c.args.known.clauses.now in
    let names = plain_namings c.args.clause.now.names.items in
    let named = rw c.deref.ensures.value at c.in_ok-attributes.ensures.ok in
    let explicit = subst (AreAttributes s es c.in_ok-entity.entity names) c.in-Explicit.is named in
    subst (λ (xs : List AttrName). AllZip (IsNamedAs s) (plain_namings xs) c.in-Explicit.attributes.items) (sym c.deref-in-Explicit.ensures.value) (named_as s c.one_id.ensures.entities c.one_id.ensures.attributes es c.in_ok-entity.entity names c.in-Explicit.attributes.items explicit)

pub returns-in_ok-told-in-Explicit-clause-ok : goal.returns-in_ok-told-in-Explicit-clause-ok
returns-in_ok-told-in-Explicit-clause-ok c =
    let s = c.args.known.schema.now in
    let es = map plain_clauses c.args.known.clauses.now in
    let names = plain_namings c.args.clause.now.names.items in
    let named = rw c.deref.ensures.value at c.in_ok-attributes.ensures.ok in
    let explicit = subst (AreAttributes s es c.in_ok-entity.entity names) c.in-Explicit.is named in
    let rule : UniqueRule = record { entity = c.in_ok-entity.entity; attributes = c.in-Explicit.attributes } in
    let told = subst (λ (n : List ℕ). AreTold s rule n c.in-Explicit.attributes.items c.in_ok-told-in-Explicit.told.items) c.deref-in-Explicit-2.ensures.value c.in_ok-told-in-Explicit.ensures in
    unique_rule {c = plain_unique c.args.clause.now} {r = rule} (record { entity = c.in_ok-entity.ensures.ok; attributes = explicit }) c.in_ok-label.ensures told

pub returns-in_ok-from_slice-in-Other-clause-ok : goal.returns-in_ok-from_slice-in-Other-clause-ok
returns-in_ok-from_slice-in-Other-clause-ok c =
    let s = c.args.known.schema.now in
    let es = map plain_clauses c.args.known.clauses.now in
    let names = plain_namings c.args.clause.now.names.items in
    let named = rw c.deref.ensures.value at c.in_ok-attributes.ensures.ok in
    let first = subst (AreAttributes s es c.in_ok-entity.entity names) c.in-Other.is named in
    unique_passed {c = plain_unique c.args.clause.now} (record { kind = refl; entity = c.in_ok-entity.ensures.ok; label = c.in_ok-label.ensures; attribute = subst (IsFirst s es c.in_ok-entity.entity names found.Other) (sym c.in_ok-from_slice-in-Other.ensures.items) first; subtype = c.new.ensures.items })

pub returns-in_err-entity-clause-refused : goal.returns-in_err-entity-clause-refused
returns-in_err-entity-clause-refused c =
    let p = err_from_is_err_and c.from_residual.result c.from_residual.ensures.1 in
    rw (p.1, p.2) (on_along c.in_err-entity.field-0.0 _ _ (no_owner c.args.known.schema.now (map plain_clauses c.args.known.clauses.now) c.args.entity.now c.args.number (plain_unique c.args.clause.now)) c.in_err-entity.ensures.refused)

pub returns-in_err-attributes-clause-refused : goal.returns-in_err-attributes-clause-refused
returns-in_err-attributes-clause-refused c =
    let s = c.args.known.schema.now in
    let es = map plain_clauses c.args.known.clauses.now in
    let p = err_from_is_err_and c.from_residual-in_err-attributes.result c.from_residual-in_err-attributes.ensures.1 in
    let named = rw c.deref.ensures.value at c.in_err-attributes.ensures.refused in
    rw (p.1, p.2) (on_along c.in_err-attributes.field-0.0 _ _ (λ first. unknown_name s es c.args.entity.now c.args.number (plain_unique c.args.clause.now) c.in_ok-entity.entity first.0 c.one_id.ensures.entities c.one_meaning.ensures c.in_ok-entity.ensures.ok first.1) named)
