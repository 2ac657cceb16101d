use Rattle.std.proofs.Common.{◌≡◌, false}
use Rattle.std.specs.List.{AllZip}
use Rattle.p21_lanes.specs.LaneIn.{SameIn}
use Rattle.p21_lanes.specs.LaneOut.{taken, took_end, SameOut}
use Rattle.p21_crew.specs.Outbox.{results_of}
use Rattle.p21_crew.specs.Worker.{IsReturned}
use Rattle.p21_crew.proofs.worker.work_lane.Given as goal

abbrev pub invariant-loop : goal.invariant-loop
invariant-loop g l =
    let stated = g.W.Work.stated l.work in
    SameOut l.initial.pieces l.pieces × SameIn l.initial.outbox.lane l.outbox.lane × (took_end l.pieces ≡ false)
    × AllZip (IsReturned stated) (taken l.pieces) (results_of l.outbox)
