use Rattle.std.proofs.lemmas.Result.{err_from_is_err_and}
use Rattle.std.proofs.Common.{length}
use Rattle.p21_express.specs.Plain.{plain_schema}
use Rattle.p21_express.proofs.ReadingLemmas.{is_reading, no_reading, badly_formed, unfit_fault}
use Rattle.p21_express.proofs.reading.read_declarations.Goals as goal

pub returns-in-Ok : goal.returns-in-Ok
returns-in-Ok c = record { ok = is_reading c.args.text.now (plain_schema c.in_ok-found.found.declarations) c.in_ok-found.ensures.ok c.in-Ok.ensures; err = tt; fault = tt }

pub returns-in-Err : goal.returns-in-Err
returns-in-Err c =
    let same = c.unfit_as.ensures (length c.args.text.now) (rw c.deref-in-Err.ensures.value c.in_ok-found.ensures.places) in
    record {
      ok = tt;
      err = badly_formed (length c.args.text.now) c.in-Err.unfit c.unfit_as.result c.args.text.now (plain_schema c.in_ok-found.found.declarations) same c.in_ok-found.ensures.ok c.in-Err.ensures;
      fault = unfit_fault c.in-Err.unfit c.unfit_as.result c.args.text.now (plain_schema c.in_ok-found.found.declarations) same c.in_ok-found.ensures.ok c.in-Err.ensures;
    }

pub returns-in_err-found : goal.returns-in_err-found
returns-in_err-found c =
    let p = err_from_is_err_and c.from_residual.result c.from_residual.ensures.1 in
    rw (p.1, p.2) (record { ok = tt; err = no_reading c.in_err-found.field-0.0 c.args.text.now c.in_err-found.ensures.err; fault = c.in_err-found.ensures.fault })
