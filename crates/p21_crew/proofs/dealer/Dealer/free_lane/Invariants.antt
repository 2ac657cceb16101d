use Rattle.std.proofs.Common.{◌≡◌}
use Rattle.p21_crew.specs.Underway.{Goes}
use Rattle.p21_crew.proofs.dealer.Dealer.free_lane.Given as goal

abbrev pub invariant-loop-lane : goal.invariant-loop-lane
invariant-loop-lane g l =
    Goes g.C.Cuts.cuts g.A.Gathers.holds l.initial.self l.self
    × (l.self.desk ≡ l.initial.self.desk)
