use Rattle.std.proofs.Common.{ℕ, List, ◌⊎◌}
use Rattle.p21_express.specs.WellFormed.{IsEntity, IsType}
use Rattle.p21_express.proofs.ChecksLemmas.{finds_more}
use Rattle.p21_express.proofs.checks.unknown.selected.Goals as goal

pub loop-i-preserved : goal.loop-i-preserved
loop-i-preserved c = λ s exact.
    finds_more (λ (n : List ℕ). IsEntity s n ⊎ IsType s n) (λ n. n.items) c.args.names.now c.loop-i.i c.index-names-i.result c.args.first.now.found c.loop-i.first.found c.known.new.first.found c.loop-i-test.true c.index-names-i.is (c.loop-i.invariant s exact) (rw c.deref.ensures.value at (c.known.ensures s exact))
