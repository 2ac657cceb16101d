use Rattle.std.proofs.Common.{List, ℕ, subst}
use Rattle.std.proofs.lemmas.Result.{on_ok_weaker}
use Rattle.std.specs.Io.KnownBytes.{Appends}
use Rattle.p21_export.proofs.model.write_first.Goals as goal

pub returns-clause-written : goal.returns-clause-written
returns-clause-written g c =
    on_ok_weaker c.write.result
    (λ (t : Appends (g.K.Sink.taken c.args.out.now) (g.K.Sink.taken c.write.new.out) c.as_slice.result.now). (c.in_ok-text.text.items, (c.in_ok-text.ensures, subst (λ (bs : List ℕ). Appends (g.K.Sink.taken c.args.out.now) (g.K.Sink.taken c.write.new.out) bs) c.as_slice.ensures.value t)))
    c.write.ensures.written
