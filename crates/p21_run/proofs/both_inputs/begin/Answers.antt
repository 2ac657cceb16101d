use Rattle.std.proofs.Common.{refl, subst, arith, ◌∙◌}
use Rattle.p21_express.specs.Reading.{IsReading}
use Rattle.p21_run.specs.Run.{IsStopped}
use Rattle.p21_run.proofs.RunLemmas.{ok_err, refused_run, unread_of}
use Rattle.p21_run.proofs.both_inputs.begin.Goals as goal

pub returns-in-Err-accept-clause-stopped : goal.returns-in-Err-accept-clause-stopped
returns-in-Err-accept-clause-stopped g c =
    let was = c.in-Ok.ensures in
    refused_run (record { whole = was.whole; bounded = omega (arith, was.bounded); at_end = was.at_end; unfailed = λ before after. ok_err (was.failed before after) }) c.as_slice.ensures.value c.tell_refusal.ensures c.in-Err-accept.ensures.refused refl

pub returns-in-Err-read_bounded-clause-stopped : goal.returns-in-Err-read_bounded-clause-stopped
returns-in-Err-read_bounded-clause-stopped g c =
    let was = c.in-Ok.ensures in
    let declared = c.in-Ok-accept.ensures.schema in
    let not = c.in-Err-read_bounded.ensures in
    IsStopped.file_unread c.in-Ok.text.items declared.0 (record { whole = was.whole; bounded = omega (arith, was.bounded); at_end = was.at_end; unfailed = λ before after. ok_err (was.failed before after) })
    (subst (λ x. IsReading x declared.0) c.as_slice.ensures.value declared.1)
    (unread_of c.in-Err-read_bounded.error c.outcome-in-Err-read_bounded.ensures not.failed not.cause) refl
