use Rattle.p21_lanes.specs.LaneOut.{SameOut}
use Rattle.p21_crew_tests.proofs.lanes_tests.take_all.Given as goal

abbrev pub invariant-loop : goal.invariant-loop
invariant-loop g l = SameOut l.initial.lane_out l.lane_out
