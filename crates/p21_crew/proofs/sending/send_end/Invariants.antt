use Rattle.std.proofs.Common.{◌≡◌}
use Rattle.p21_lanes.specs.LaneIn.{accepted, SameIn}
use Rattle.p21_crew.proofs.sending.send_end.Given as goal

abbrev pub invariant-loop : goal.invariant-loop
invariant-loop g l = SameIn l.initial.lane l.lane × (accepted l.lane ≡ accepted l.initial.lane)
