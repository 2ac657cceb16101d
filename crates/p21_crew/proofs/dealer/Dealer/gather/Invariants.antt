use Rattle.p21_crew.specs.Underway.{Goes}
use Rattle.p21_crew.proofs.dealer.Dealer.gather.Given as goal

abbrev pub invariant-loop : goal.invariant-loop
invariant-loop g l = Goes g.C.Cuts.cuts g.A.Gathers.holds l.initial.self l.self
