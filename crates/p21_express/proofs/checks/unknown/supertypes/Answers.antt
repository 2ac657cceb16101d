use Rattle.p21_express.specs.WellFormed.{IsEntity}
use Rattle.p21_express.proofs.ChecksLemmas.{finds_more}
use Rattle.p21_express.proofs.checks.unknown.supertypes.Goals as goal

pub loop-i-preserved : goal.loop-i-preserved
loop-i-preserved c = λ s exact.
    finds_more (IsEntity s) (λ n. n.items) c.args.names.now c.loop-i.i c.index-names-i.result c.args.first.now.found c.loop-i.first.found c.supertype.new.first.found c.loop-i-test.true c.index-names-i.is (c.loop-i.invariant s exact) (rw c.deref.ensures.value at (c.supertype.ensures s exact))
