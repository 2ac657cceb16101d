use Rattle.p21_crew.proofs.UnderwayLemmas.{goes_then}
use Rattle.p21_crew.proofs.dealer.Dealer.gather.Goals as goal

pub loop-preserved : goal.loop-preserved
loop-preserved g c = goes_then g.C.Cuts.cuts g.A.Gathers.holds c.args.self.now c.loop.self c.gather_next.new.self c.loop.invariant c.in_ok-gather_next.ensures

pub returns-then-not-branch : goal.returns-then-not-branch
returns-then-not-branch g c = goes_then g.C.Cuts.cuts g.A.Gathers.holds c.args.self.now c.loop.self c.gather_next.new.self c.loop.invariant c.in_ok-gather_next.ensures
