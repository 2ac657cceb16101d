use Rattle.std.proofs.Common.{◌≡◌, ◌-◌, None, length}
use Rattle.p21_crew.specs.Underway.{Goes}
use Rattle.p21_crew.proofs.dealer.Dealer.cut.Given as goal

abbrev pub invariant-loop-self : goal.invariant-loop-self
invariant-loop-self g l = Goes g.C.Cuts.cuts g.A.Gathers.holds l.initial.self l.self × (l.self.tail ≡ None)

abbrev pub decreases-loop-self : goal.decreases-loop-self
decreases-loop-self g l = l.self.together - length l.self.batch.items
