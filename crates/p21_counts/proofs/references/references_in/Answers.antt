use Rattle.std.proofs.Common.{sym, ◌∙◌, ap, arith}
use Rattle.p21_counts.specs.Counts.{capped}
use Rattle.p21_counts.proofs.CountLemmas.{left_of, records_all}
use Rattle.p21_counts.proofs.references.references_in.Goals as goal

pub returns : goal.returns
returns c =
    sym (records_all c.as_slice-record-items.result.now c.loop-record.record-index c.loop-record.sum (omega arith) c.loop-record.invariant.0) ∙ c.loop-record.invariant.1
    ∙ ap (λ rs. capped (left_of rs 0)) c.as_slice-record-items.ensures
