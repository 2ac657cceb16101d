use Rattle.std.proofs.Common.{map}
use Rattle.std.specs.List.{AllByRecursion}
use Rattle.std.proofs.lemmas.Result.{err_from_is_err_and}
use Rattle.p21_express.specs.declared.misfit.Misfit.TheVariants as misfit
use Rattle.p21_express.specs.Plain.{plain_schema, plain_entity}
use Rattle.p21_express.specs.WellFormed.{IsRedeclaring}
use Rattle.p21_express.proofs.RedeclarationLemmas.{entity_there_at, all_step, all_refused, unfit_to}
use Rattle.p21_express.proofs.checks.redeclared.check.Goals as goal

pub entity-requires-clause-decl : goal.entity-requires-clause-decl
entity-requires-clause-decl c = entity_there_at c.args.checked.declarations.now.entities.items c.loop-position.position c.decl-item.result (rw c.deref-decl-items.ensures.value at c.loop-position-test.true) (rw c.deref-decl-items.ensures.value at c.decl-item.is)

pub loop-position-preserved : goal.loop-position-preserved
loop-position-preserved c = all_step (IsRedeclaring (plain_schema c.args.checked.declarations.now)) c.args.checked.declarations.now.entities.items c.loop-position.position c.decl-item.result (rw c.deref-decl-items.ensures.value at c.loop-position-test.true) (rw c.deref-decl-items.ensures.value at c.decl-item.is) c.loop-position.invariant c.in_ok-entity.ensures

pub returns-in_err-entity : goal.returns-in_err-entity
returns-in_err-entity c =
    let s = plain_schema c.args.checked.declarations.now in
    let wrong : ¬ (IsRedeclaring (plain_schema c.args.checked.declarations.now) (plain_entity c.decl-item.result)) → ¬ (AllByRecursion (IsRedeclaring (plain_schema c.args.checked.declarations.now)) (map plain_entity c.args.checked.declarations.now.entities.items)) = all_refused (IsRedeclaring s) c.args.checked.declarations.now.entities.items c.loop-position.position c.decl-item.result (rw c.deref-decl-items.ensures.value at c.loop-position-test.true) (rw c.deref-decl-items.ensures.value at c.decl-item.is) in
    let p = err_from_is_err_and c.from_residual-in_err-entity.result c.from_residual-in_err-entity.ensures.1 in
    rw (p.1, p.2)
    (unfit_to c.in_err-entity.field-0.0 misfit.BadRedeclaration (¬ (IsRedeclaring (plain_schema c.args.checked.declarations.now) (plain_entity c.decl-item.result))) (¬ (AllByRecursion (IsRedeclaring (plain_schema c.args.checked.declarations.now)) (map plain_entity c.args.checked.declarations.now.entities.items))) wrong c.in_err-entity.ensures)
