use Rattle.std.proofs.Common.{◌≡◌, false}
use Rattle.p21_lanes.specs.LaneIn.{accepted, was_ended, SameIn}
use Rattle.p21_crew.proofs.sending.send_together.Given as goal

abbrev pub invariant-loop : goal.invariant-loop
invariant-loop g l = SameIn l.initial.lane l.lane × (accepted l.lane ≡ accepted l.initial.lane) × (was_ended l.lane ≡ false) × (l.items ≡ l.initial.items)
