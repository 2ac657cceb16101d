use Rattle.std.proofs.Common.{take}
use Rattle.p21_express.specs.Naming.{texts}
use Rattle.p21_express.proofs.MetLemmas.{met_more}
use Rattle.p21_express.proofs.checks.repeated.list.Goals as goal

pub loop-i-preserved : goal.loop-i-preserved
loop-i-preserved c =
    met_more c.args.first.now.found c.meet.new.first.found c.meet.new.self.places (λ n. n.items) c.args.names.now c.loop-i.i c.index-names-i.result c.loop-i-test.true c.index-names-i.is
    (rw c.deref.ensures.value at (c.in_ok-meet.ensures c.args.first.now.found (texts (take c.loop-i.i c.args.names.now)) c.loop-i.invariant))
