use Rattle.std.proofs.lemmas.Result.{err_from_is_err_and}
use Rattle.p21_express.specs.Plain.{plain_schema}
use Rattle.p21_express.specs.WellFormed.{HasNoRepeated, HasNoCycles}
use Rattle.p21_express.specs.declared.misfit.Misfit.TheVariants as misfit
use Rattle.p21_express.proofs.WellFormedLemmas.{only_misfit, unknown_misfit, checked}
use Rattle.p21_express.proofs.checks.check.Goals as goal

pub check-requires-2 : goal.check-requires-2
check-requires-2 c = record { index_is = c.in_ok-index.ensures; distinct = c.in_ok-check.ensures.declarations }

pub check-requires-3 : goal.check-requires-3
check-requires-3 c = record { index = record { index_is = c.in_ok-index.ensures; distinct = c.in_ok-check.ensures.declarations }; unknown = c.in_ok-check-2.ensures }

pub check-requires-4 : goal.check-requires-4
check-requires-4 c = record { index = record { index_is = c.in_ok-index.ensures; distinct = c.in_ok-check.ensures.declarations }; unknown = c.in_ok-check-2.ensures; cycles = c.in_ok-check-3.ensures }

pub returns : goal.returns
returns c = checked (plain_schema c.args.declarations.now) c.check-4.result c.in_ok-check.ensures c.in_ok-check-2.ensures c.in_ok-check-3.ensures c.check-4.ensures

pub returns-in_err-check : goal.returns-in_err-check
returns-in_err-check c =
    let s = plain_schema c.args.declarations.now in
    let p = err_from_is_err_and c.from_residual.result c.from_residual.ensures.1 in
    rw (p.1, p.2) (only_misfit s misfit.Repeated (¬ (HasNoRepeated s)) c.in_err-check.field-0.0 (λ h. h) c.in_err-check.ensures)

pub returns-in_err-check-2 : goal.returns-in_err-check-2
returns-in_err-check-2 c =
    let s = plain_schema c.args.declarations.now in
    let p = err_from_is_err_and c.from_residual-in_err-check-2.result c.from_residual-in_err-check-2.ensures.1 in
    rw (p.1, p.2) (unknown_misfit s c.in_err-check-2.field-0.0 c.in_ok-check.ensures c.in_err-check-2.ensures)

pub returns-in_err-check-3 : goal.returns-in_err-check-3
returns-in_err-check-3 c =
    let s = plain_schema c.args.declarations.now in
    let p = err_from_is_err_and c.from_residual-in_err-check-3.result c.from_residual-in_err-check-3.ensures.1 in
    rw (p.1, p.2) (only_misfit s misfit.Cycle (¬ (HasNoCycles s)) c.in_err-check-3.field-0.0 (λ h. (c.in_ok-check.ensures, c.in_ok-check-2.ensures, h)) c.in_err-check-3.ensures)

pub returns-in_err-index : goal.returns-in_err-index
returns-in_err-index c =
    let p = err_from_is_err_and c.from_residual-in_err-index.result c.from_residual-in_err-index.ensures.1 in
    rw (p.1, p.2) tt
