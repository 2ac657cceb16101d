use Rattle.std.proofs.Common.{◌≡◌, IsTrue}
use Rattle.p21_lanes.specs.LaneOut.{taken, SameOut}
use Rattle.p21_crew.proofs.flight.drain.Given as goal

abbrev pub invariant-loop : goal.invariant-loop
invariant-loop g l = SameOut l.initial.results l.results × (IsTrue l.is_clean → taken l.results ≡ taken l.initial.results)
